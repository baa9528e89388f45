-- Words that no entry may be: cause 13.
-- 02: "An entry may no longer be a listed name, nor main, metal, Varyings, .."
use Rattle.std.specs.Prelude.{ℕ, Bool, true, false, ◌||◌, List, [], ◌∷◌}
use Prim.Native.String.{String}
use Rattle.std.proofs.Math.Option.{Option, none, some}
use Rattle.text.specs.Text.{bytes}
use Rattle.text.specs.Format.{same}
use Rattle.values.specs.Listed.{Name, listed}
use Rattle.values.specs.Entries.{name_of}
use Rattle.values.specs.declared.Entry.{Entry}

-- what the text, or Metal, already uses beside the listed names
abbrev pub others : List String
others =
    "main" ∷ "metal" ∷ "Varyings" ∷ "FfPsOut" ∷ "mtld3d_linear_to_srgb" ∷ "fragment" ∷ "vertex" ∷ "kernel" ∷ "struct" ∷ "constant" ∷ "sampler"
    ∷ "static" ∷ "inline" ∷ "return" ∷ "if" ∷ "uint" ∷ "float" ∷ "float2" ∷ "float3" ∷ "float4" ∷ []

abbrev pub one_of : List String → List ℕ → Bool
one_of [] w = false
one_of (s ∷ r) w = same (bytes s) w || one_of r w

abbrev pub is_listed : Option Name → Bool
is_listed none = false
is_listed (some n) = true

-- the word is a listed name or one of the others
unfoldable pub reserved_word : List ℕ → Bool
reserved_word w = is_listed (listed w) || one_of others w

-- 13: "such a word"
abbrev pub entry_reserved : Entry → Bool
entry_reserved e = reserved_word (name_of e)

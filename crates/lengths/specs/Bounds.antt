-- The greatest length of a text, by the kind of its key.
-- 02, Fourteen: "Find the greatest length of any text from a kind 1 key, a variant and an entry of one byte"; "An entry of n bytes adds n - 1."
use Rattle.std.specs.Prelude.{ℕ, ◌+◌, ◌<◌, Bool, cond, ◌≡◌, T, length}
use Rattle.values.specs.Entries.{entry_good}
use Rattle.values.specs.declared.Key.{Key}
use Rattle.values.specs.declared.Variant.{Variant}
use Rattle.values.specs.declared.Entry.{Entry}

-- with an entry of n bytes, of a key of kind 1, or of kind 6 where wide is true
abbrev pub greatest_length : Bool → ℕ → ℕ
greatest_length wide n = cond wide 6625 6484 + n

-- A key and a variant as their types have them: eight stages, and a sample mask of one byte.
pub record Typed (k : Key) (v : Variant) : Type 0 where
  pub stages : length k.stages ≡ 8
  pub mask : v.sample_mask < 256

-- an entry that cause 6 does not refuse, in its 32 bytes
pub record Permitted (e : Entry) : Type 0 where
  pub bytes : length e.name ≡ 32
  pub good : T (entry_good e)

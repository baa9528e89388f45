-- Listed names: the words that a text may declare and use, each by its place in 01's list.
-- 01: "**Listed names**: current, temp, oC0, in, in_stage, point_coord, ps_c, alpha_ref, fog_data, bump_env, lod_bias, fog_c, fog_f, fog_dz,
-- fog_range, and t, s, samp, pc, bc, proj each with 0 to 7."
use Rattle.std.specs.Prelude.{ℕ, suc, ◌-◌, ◌&&◌, cond, List, [], ◌∷◌, eqb, leb}
use Prim.Native.Char.{code}
use Prim.Native.String.{String}
use Rattle.std.proofs.Math.Option.{Option, none, some}
use Rattle.text.specs.Text.{bytes}
use Rattle.text.specs.Format.{same}

abbrev pub singles : List String
singles =
    "current" ∷ "temp" ∷ "oC0" ∷ "in" ∷ "in_stage" ∷ "point_coord" ∷ "ps_c" ∷ "alpha_ref" ∷ "fog_data" ∷ "bump_env" ∷ "lod_bias" ∷ "fog_c"
    ∷ "fog_f" ∷ "fog_dz" ∷ "fog_range" ∷ []

abbrev pub families : List String
families = "t" ∷ "s" ∷ "samp" ∷ "pc" ∷ "bc" ∷ "proj" ∷ []

-- A listed name: its place in that list, from 0, and its stage number, 0 for a name that has none.
pub data Name : Type 0 where
  name : ℕ → ℕ → Name

-- the number from 0 to 7 that stands in the word w behind s
abbrev pub stage_in : List ℕ → List ℕ → Option ℕ
stage_in [] [] = none
stage_in [] (d ∷ []) = cond (leb (code "0") d && leb d (code "7")) (some (d - code "0")) none
stage_in [] (d ∷ (c ∷ w)) = none
stage_in (x ∷ s) [] = none
stage_in (x ∷ s) (c ∷ w) = cond (eqb x c) (stage_in s w) none

-- the name that the word w is, of these families, the first of them at place k
abbrev pub in_families : List String → ℕ → List ℕ → Option Name
in_families [] k w = none
in_families (s ∷ r) k w = elim (stage_in (bytes s) w) [ some i ↦ some (name k i) | none ↦ in_families r (suc k) w ]

abbrev pub in_list : List String → ℕ → List ℕ → Option Name
in_list [] k w = in_families families k w
in_list (s ∷ r) k w = cond (same (bytes s) w) (some (name k 0)) (in_list r (suc k) w)

-- the listed name that the word w is
abbrev pub listed : List ℕ → Option Name
listed w = in_list singles 0 w

-- The order in which a text declares the listed names, and the names of a stage as words.
use Prim.Native.Nat.{ℕ, ◌+◌, ◌*◌, ◌<◌}
use mathlib.Core.List.{List, [], ◌∷◌}
use mathlib.Core.Bool.{Bool, not, ◌||◌, cond}
use lib.ListN.{get_or}
use Rattle.text.specs.Text.{bytes, flat}
use Rattle.shader.specs.Lookups.{texture_name, sampler_name, coordinate_text}
use Rattle.shader.specs.declared.Coordinate.{Coordinate}
use Rattle.shader.specs.declared.Coordinate.TheVariants.{Interpolated, Divided, Displaced, Projected}
use Rattle.values.specs.Listed.{Name, name}
use Rattle.shader.specs.Idle.{watched}
use Rattle.shader.proofs.Names.Check.{Aim}
use Rattle.shader.proofs.Names.Words.{the, Word, family}

-- By place in 01's list: parameters, textures and samplers, locals, lookups, output. A point sprite's `in` is a local.
abbrev pub order : Bool → List (ℕ → ℕ)
order sprite =
    (λ i. 31) ∷ (λ i. 32) ∷ (λ i. 80) ∷ (λ i. cond sprite 30 2) ∷ (λ i. 0) ∷ (λ i. 1) ∷ (λ i. 3)
    ∷ (λ i. 4) ∷ (λ i. 5) ∷ (λ i. 6) ∷ (λ i. 7)
    ∷ (λ i. 81) ∷ (λ i. 84) ∷ (λ i. 82) ∷ (λ i. 83)
    ∷ (λ i. 43 + 4 * i) ∷ (λ i. 10 + 2 * i) ∷ (λ i. 11 + 2 * i) ∷ (λ i. 40 + 4 * i) ∷ (λ i. 41 + 4 * i) ∷ (λ i. 42 + 4 * i) ∷ []

abbrev pub rank_of : Bool → Name → ℕ
rank_of sprite (name k i) = get_or (order sprite) k (λ i. 0) i

-- named: the names that the whole text uses. One that may not be idle may be declared only if it is among them.
abbrev pub aim : Bool → ℕ → ℕ → (Name → Bool) → Aim
aim sprite rows total named = record { rank = rank_of sprite; rows = rows; total = total; may = λ m. not (watched m) || named m }

-- the names of stage i
abbrev pub texture_of : ℕ → Name
texture_of i = name 16 i

abbrev pub sampler_of : ℕ → Name
sampler_of i = name 17 i

abbrev pub coordinate_of : ℕ → Coordinate → Name
coordinate_of i Interpolated = the "in"
coordinate_of i Divided = name 18 i
coordinate_of i Displaced = name 19 i
coordinate_of i Projected = name 20 i

pub texture_word : (i : ℕ) → i < 8 → Word (flat (texture_name i)) (texture_of i)
unfolding texture_name
texture_word = family 16 (bytes "s") (λ b. tt)

pub sampler_word : (i : ℕ) → i < 8 → Word (flat (sampler_name i)) (sampler_of i)
unfolding sampler_name
sampler_word = family 17 (bytes "samp") (λ b. tt)

pub divided_word : (i : ℕ) → i < 8 → Word (flat (coordinate_text i Divided)) (coordinate_of i Divided)
unfolding coordinate_text
divided_word = family 18 (bytes "pc") (λ b. tt)

pub displaced_word : (i : ℕ) → i < 8 → Word (flat (coordinate_text i Displaced)) (coordinate_of i Displaced)
unfolding coordinate_text
displaced_word = family 19 (bytes "bc") (λ b. tt)

pub projected_word : (i : ℕ) → i < 8 → Word (flat (coordinate_text i Projected)) (coordinate_of i Projected)
unfolding coordinate_text
projected_word = family 20 (bytes "proj") (λ b. tt)

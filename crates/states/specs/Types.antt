-- The types of texture stage states, and the values that each takes.
-- 02, One: "Types are Direct3D 9's 1 to 6 (colour op, its two arguments, alpha op, its two arguments) and 28 (result, value 1 or 5), and our 0
-- (texture bound, 0 or 1)." 02, Nine: "Types 26 and 27 of request One, no longer 11", are argument 0 of colour and of alpha.
use Rattle.std.specs.Prelude.{ℕ, ◌≡◌, Bool, false, ◌||◌, cond, List, [], ◌∷◌, eqb, leb, Result, MatchResult}
use Rattle.values.specs.declared.Refusal.{Refusal}
use Rattle.values.specs.declared.Refusal.TheVariants.{StateType}
use Rattle.states.specs.declared.state.StageState.{StageState}
use Rattle.states.specs.declared.state.StageState.TheVariants as state

-- D3DTSS
abbrev pub colour_op : ℕ
colour_op = 1

abbrev pub colour_arg1 : ℕ
colour_arg1 = 2

abbrev pub colour_arg2 : ℕ
colour_arg2 = 3

abbrev pub alpha_op : ℕ
alpha_op = 4

abbrev pub alpha_arg1 : ℕ
alpha_arg1 = 5

abbrev pub alpha_arg2 : ℕ
alpha_arg2 = 6

abbrev pub result_arg : ℕ
result_arg = 28

abbrev pub colour_arg0 : ℕ
colour_arg0 = 26

abbrev pub alpha_arg0 : ℕ
alpha_arg0 = 27

-- ours
abbrev pub texture_bound : ℕ
texture_bound = 0

-- the types
abbrev pub state_types : List ℕ
state_types =
    colour_op ∷ colour_arg1 ∷ colour_arg2 ∷ alpha_op ∷ alpha_arg1 ∷ alpha_arg2 ∷ result_arg ∷ texture_bound ∷ colour_arg0 ∷ alpha_arg0 ∷ []

abbrev pub among : ℕ → List ℕ → Bool
among t [] = false
among t (u ∷ r) = eqb t u || among t r

abbrev pub is_type : ℕ → Bool
is_type t = among t state_types

-- the types that only a key of kind 6 has
abbrev pub sets_arg0 : ℕ → Bool
sets_arg0 t = eqb t colour_arg0 || eqb t alpha_arg0

-- a value that a type takes: for 28 and 0 one of "those named", for the others a byte
abbrev pub takes : ℕ → ℕ → Bool
takes t v = cond (eqb t result_arg) (eqb v 1 || eqb v 5) (cond (eqb t texture_bound) (eqb v 0 || eqb v 1) (leb v 255))

-- Only contracts of private functions cite what follows.

-- the number of a state
abbrev pub state_number : StageState → ℕ
state_number state.ColorOp = colour_op
state_number state.ColorArg1 = colour_arg1
state_number state.ColorArg2 = colour_arg2
state_number state.AlphaOp = alpha_op
state_number state.AlphaArg1 = alpha_arg1
state_number state.AlphaArg2 = alpha_arg2
state_number state.ColorArg0 = colour_arg0
state_number state.AlphaArg0 = alpha_arg0
state_number state.ResultArg = result_arg
state_number state.TextureBound = texture_bound

-- a number names the state that has it, and one that is no type is refused with 11
abbrev pub Names : ℕ → Result StageState Refusal → Type 0
Names n r = MatchResult r (λ s. state_number s ≡ n) (λ c. (c ≡ StateType) × (is_type n ≡ false))

-- What an accepted write is: its stage is one of the eight, its type is known, and the type takes its value.
use Prim.Native.Nat.{ℕ, ◌<◌}
use mathlib.Core.Path.{◌≡◌, refl, sym, ap, ◌∙◌}
use mathlib.Core.Bool.{Bool, true, false, not, ◌||◌, cond, false≢true}
use native.Mathlib.Omega.{arith}
use borrow.Author.Tests.{ltb-false, leb-true, eqb-true}
use lib.Dec.{eqb, leb, ltb}
use Rattle.values.specs.declared.StateWrite.{StateWrite}
use Rattle.std.specs.Prelude.{Result, Ok, Err, is_err}
use Rattle.values.specs.Refusals.{number_of, answer_number}
use Rattle.values.specs.declared.Refusal.{Refusal}
use Rattle.values.specs.declared.Refusal.TheVariants.{StageNumber, StateType, StateValue}
use Rattle.states.specs.Types.{is_type, takes, result_arg, texture_bound}
use Rattle.states.specs.Writes.{accepted, checked_write, state_write_number}
use Rattle.states.proofs.Bits.{either}

pub record Accepted (w : StateWrite) : Type 0 where
  pub stage : w.stage < 8
  pub state : is_type w.state ≡ true
  pub value : takes w.state w.value ≡ true

-- an accepted write is free of 10, 11 and 12
pub free : (w : StateWrite) → accepted w ≡ true → Accepted w
unfolding state_write_number
free w e = go (ltb 7 w.stage) (is_type w.state) (takes w.state w.value) refl refl refl e
  where
    go : (a b c : Bool) → ltb 7 w.stage ≡ a → is_type w.state ≡ b → takes w.state w.value ≡ c
        → eqb (cond a 10 (cond (not b) 11 (cond (not c) 12 0))) 0 ≡ true → Accepted w
    go true b c p q r e = absurd (false≢true e)
    go false false c p q r e = absurd (false≢true e)
    go false true false p q r e = absurd (false≢true e)
    go false true true p q r e = record { stage = omega (arith, ltb-false 7 w.stage p); state = q; value = r }

-- a value that a type takes is a byte
pub takes_byte : (t v : ℕ) → takes t v ≡ true → v < 256
takes_byte t v e = go (eqb t result_arg) (eqb t texture_bound) e
  where
    go : (a b : Bool) → cond a (eqb v 1 || eqb v 5) (cond b (eqb v 0 || eqb v 1) (leb v 255)) ≡ true → v < 256
    go true b e = either (eqb v 1) (eqb v 5) e (λ h. omega (arith, eqb-true v 1 h)) (λ h. omega (arith, eqb-true v 5 h))
    go false true e = either (eqb v 0) (eqb v 1) e (λ h. omega (arith, eqb-true v 0 h)) (λ h. omega (arith, eqb-true v 1 h))
    go false false e = omega (arith, leb-true v 255 e)

-- What is checked, its number, and whether the write is accepted come of the same tests: Q of each cause and Q of an accepted write give Q of them.
pub check_cases : (Q : Bool → ℕ → Result (Unit {0}) Refusal → Type 0) (w : StateWrite) → ((c : Refusal) → Q false (number_of c) (Err c)) →
    (accepted w ≡ true → Q true 0 (Ok tt)) → Q (accepted w) (state_write_number w) (checked_write w)
unfolding checked_write state_write_number
check_cases Q w f g = go (ltb 7 w.stage) (is_type w.state) (takes w.state w.value) g
  where
    go : (a b c : Bool) → (eqb (cond a 10 (cond (not b) 11 (cond (not c) 12 0))) 0 ≡ true → Q true 0 (Ok tt))
        → Q (eqb (cond a 10 (cond (not b) 11 (cond (not c) 12 0))) 0) (cond a 10 (cond (not b) 11 (cond (not c) 12 0)))
        (cond a (Err StageNumber) (cond (not b) (Err StateType) (cond (not c) (Err StateValue) (Ok tt))))
    go true b c g = f StageNumber
    go false false c g = f StateType
    go false true false g = f StateValue
    go false true true g = g refl

-- so a write that is accepted is good, and is no error
pub good : (w : StateWrite) → accepted w ≡ true → checked_write w ≡ Ok tt
good w = check_cases (λ (a : Bool) (n : ℕ) (c : Result (Unit {0}) Refusal). a ≡ true → c ≡ Ok tt) w (λ c e. absurd (false≢true e)) (λ _ _. refl)

agrees : (w : StateWrite) → accepted w ≡ not (is_err (checked_write w))
agrees w = check_cases (λ (a : Bool) (n : ℕ) (c : Result (Unit {0}) Refusal). a ≡ not (is_err c)) w (λ c. refl) (λ _. refl)

-- what was checked tells whether the write is accepted
pub is_accepted : (w : StateWrite) {c : Result (Unit {0}) Refusal} → c ≡ checked_write w → is_err c ≡ false → accepted w ≡ true
is_accepted w e h = agrees w ∙ ap (λ (c : Result (Unit {0}) Refusal). not (is_err c)) (sym e) ∙ ap not h

pub is_refused : (w : StateWrite) {c : Result (Unit {0}) Refusal} → c ≡ checked_write w → is_err c ≡ true → accepted w ≡ false
is_refused w e h = agrees w ∙ ap (λ (c : Result (Unit {0}) Refusal). not (is_err c)) (sym e) ∙ ap not h

-- the number of what was checked
numbered : (w : StateWrite) → answer_number (checked_write w) ≡ state_write_number w
numbered w = check_cases (λ (a : Bool) (n : ℕ) (c : Result (Unit {0}) Refusal). answer_number c ≡ n) w (λ c. refl) (λ _. refl)

pub accepted_number : (w : StateWrite) → checked_write w ≡ Ok tt → 0 ≡ state_write_number w
accepted_number w e = sym (ap answer_number e) ∙ numbered w

pub refused_number : (w : StateWrite) {c : Refusal} → checked_write w ≡ Err c → number_of c ≡ state_write_number w
refused_number w e = sym (ap answer_number e) ∙ numbered w

-- so its stage is one of the eight, and its value a byte
accepts : (w : StateWrite) → checked_write w ≡ Ok tt → Accepted w
accepts w e = free w (is_accepted w (sym e) refl)

pub accepted_stage : (w : StateWrite) → checked_write w ≡ Ok tt → w.stage < 8
accepted_stage w e = (accepts w e).stage

pub accepted_value : (w : StateWrite) → checked_write w ≡ Ok tt → w.value < 256
accepted_value w e = takes_byte w.state w.value (accepts w e).value

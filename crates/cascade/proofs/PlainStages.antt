-- What plain arguments keep out of a stage.
use Prim.Native.Nat.{ℕ, ◌<◌, ◌≤◌}
use mathlib.Core.Bool.{Bool, true, false, not, ◌&&◌, ◌||◌}
use mathlib.Core.Path.{◌≡◌}
use native.Mathlib.Omega.{arith}
use borrow.Author.Tests.{ne_eqb, lt-leb, ltb-true, leb-true, not-true}
use lib.Dec.{eqb, leb, ltb}
use Rattle.std.proofs.Math.Bool.{and-false, or-false}
use Rattle.std.proofs.lemmas.Bool.{and_parts}
use Rattle.combiners.specs.Codes.{selector, factor, constant, temp}
use Rattle.combiners.specs.Warnings.{unknown_selector, unknown_modifier}
use Rattle.cascade.specs.Keys.{selects, some, reads, reads_constant, blends_by_factor, names_factor}
use Rattle.cascade.specs.Reading.{keeps, reads_temp}
use Rattle.cascade.specs.Warnings.{applies_colour, applies_alpha}
use Rattle.cascade.specs.Walks.{warns}
use Rattle.cascade.specs.Plain.{PlainArgument, PlainCombiner, PlainStage}
use Rattle.values.specs.declared.Combiner.{Combiner}
use Rattle.values.specs.declared.Stage.{Stage}
use Rattle.cascade.proofs.Guards.{none_read, none_kept}

-- an argument below 64 whose selector is at most 4 and not 3
pub plain_argument : (a : ℕ) → (ltb a 64 && (leb (selector a) 4 && not (eqb (selector a) 3))) ≡ true → PlainArgument a
plain_argument a h =
    let small = and_parts (ltb a 64) _ h in
    let low = and_parts (leb (selector a) 4) _ small.1 in
    let m : a < 64 = ltb-true a 64 small.0 in
    let s : selector a ≤ 4 = leb-true (selector a) 4 low.0 in
    record {
      factor = not-true _ low.1;
      temp = ne_eqb (selector a) 5 (λ e. omega arith);
      constant = ne_eqb (selector a) 6 (λ e. omega arith);
      selector = lt-leb 7 (selector a) (omega arith);
      modifier = lt-leb 64 a (omega arith);
    }

-- a fact of no plain argument is one of no argument of a plain combiner
none : (f : ℕ → Bool) → ((a : ℕ) → PlainArgument a → f a ≡ false) → (c : Combiner) → PlainCombiner c → some f c ≡ false
none f h c p = rw (h c.arg1 p.first, h c.arg2 p.second, p.third)

module _ (c : Combiner) (p : PlainCombiner c) where
  no_constant : reads constant c ≡ false
  no_constant = none_read constant c (none (selects constant) (λ a x. x.constant) c p)

  no_temp : (t : Bool) → keeps temp t c ≡ false
  no_temp t = none_kept temp t c (none (selects temp) (λ a x. x.temp) c p)

module _ (s : Stage) (p : PlainCombiner s.colour) (q : PlainCombiner s.alpha) where
  names : names_factor s ≡ blends_by_factor s
  unfolding names_factor
  names = rw (none (selects factor) (λ a x. x.factor) s.colour p, none (selects factor) (λ a x. x.factor) s.alpha q, and-false, or-false)

  warned : (f : ℕ → Bool) → ((a : ℕ) → PlainArgument a → f a ≡ false)
      → ((applies_colour s && some f s.colour) || (applies_alpha s && some f s.alpha)) ≡ false
  warned f h = rw (none f h s.colour p, none f h s.alpha q, and-false, and-false)

  pub plain_stage : PlainStage s
  unfolding reads_constant reads_temp warns
  plain_stage =
      record {
        factor = names;
        temp = rw (no_temp s.colour p, no_temp s.alpha q, and-false, and-false, and-false);
        constant = rw (no_constant s.colour p, no_constant s.alpha q, and-false, and-false, and-false);
        selector = warned unknown_selector (λ a x. x.selector);
        modifier = warned unknown_modifier (λ a x. x.modifier);
      }

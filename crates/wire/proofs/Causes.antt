-- A record's causes and their numbers, by cases; a record without one.
use mathlib.Core.Path.{◌≡◌, refl, ap}
use mathlib.Core.Bool.{Bool, true, false, cond, ◌||◌}
use mathlib.Core.List.{List, [], ◌∷◌, map}
use Prim.Native.Nat.{ℕ}
use lib.Dec.{leb}
use Rattle.std.specs.Prelude.{Result, Ok, Err}
use Rattle.values.specs.Refusals.{number_of}
use Rattle.values.specs.Flags.{stage_flags_bad, variant_flags_bad}
use Rattle.values.specs.Entries.{entry_good}
use Rattle.values.specs.Words.{entry_reserved}
use Rattle.values.specs.Kinds.{seven_bytes}
use Rattle.values.specs.declared.Refusal.{Refusal}
use Rattle.values.specs.declared.Refusal.TheVariants.{StageFlags, VariantFlags, EntryName, ReservedWord}
use Rattle.values.specs.declared.Stage.{Stage}
use Rattle.states.proofs.Accepted.{check_cases, good}
use Rattle.wire.specs.Values.{own}
use Rattle.wire.specs.Causes.{checked_record}
use Rattle.wire.specs.Writing.{value_number}
use Rattle.wire.specs.declared.Record.{Record}
use Rattle.wire.specs.declared.Record.TheVariants as rec
use Rattle.wire.proofs.Bodies.{Free}

-- an answer and its number that come of the same test
pub either : {A : Type 0} (Q : ℕ → A → Type 0) (t : Bool) (m n : ℕ) (x y : A) → (t ≡ true → Q m x) → (t ≡ false → Q n y) → Q (cond t m n) (cond t x y)
either Q true m n x y p q = p refl
either Q false m n x y p q = q refl

-- Q of each cause and its number, and Q of a record without one, give Q of what the value is refused for.
pub value_cases : (Q : ℕ → Result (Unit {0}) Refusal → Type 0) (r : Record) (n : ℕ) → ((c : Refusal) → Q (number_of c) (Err c)) →
    (Free r → Q n (Ok tt)) → Q (value_number r n) (checked_record r)
unfolding value_number
value_cases Q (rec.Key k) n p q = either Q (stage_flags_bad k.stages) _ _ _ _ (λ _. p StageFlags) q
value_cases Q (rec.Variant v) n p q = either Q (variant_flags_bad v) _ _ _ _ (λ _. p VariantFlags) q
value_cases Q (rec.Entry e) n p q =
    either Q (entry_good e) _ _ _ _ (λ g. either Q (entry_reserved e) _ _ _ _ (λ _. p ReservedWord) (λ f. q (g, f))) (λ _. p EntryName)
value_cases Q rec.Emit n p q = q tt
value_cases Q (rec.State w) n p q = check_cases (λ (b : Bool) (m : ℕ) (c : Result (Unit {0}) Refusal). Q (cond b n m) c) w p q
value_cases Q (rec.WideKey k) n p q = either Q (stage_flags_bad k.stages) _ _ _ _ (λ _. p StageFlags) q

-- a value without a cause is refused for none
pub free_checks : (r : Record) → Free r → checked_record r ≡ Ok tt
free_checks (rec.Key k) f = rw f
free_checks (rec.Variant v) f = rw f
free_checks (rec.Entry e) f = rw (f.0, f.1)
free_checks rec.Emit f = refl
free_checks (rec.State w) f = good w f
free_checks (rec.WideKey k) f = rw f

-- the flags are those of the key
flags_seven : (l : List Stage) → stage_flags_bad (map seven_bytes l) ≡ stage_flags_bad l
unfolding stage_flags_bad
flags_seven [] = refl
flags_seven (s ∷ l) = ap (λ (b : Bool). leb 4 s.flags || b) (flags_seven l)

-- so is what is read of the record
pub own_free : (r : Record) → Free r → Free (own r)
own_free (rec.Key k) f = rw (flags_seven k.stages) f
own_free (rec.Variant v) f = f
own_free (rec.Entry e) f = f
own_free rec.Emit f = f
own_free (rec.State w) f = f
own_free (rec.WideKey k) f = f

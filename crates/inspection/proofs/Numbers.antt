-- Numbers of a record's bytes, from the tests of the code, and what they say of the answer.
use Prim.Native.Nat.{ℕ, ◌<◌, ◌≤◌}
use mathlib.Core.Bool.{Bool, true, false, cond}
use mathlib.Core.Path.{◌≡◌, refl, sym, ap, ◌∙◌}
use mathlib.Core.List.{List}
use native.Mathlib.Omega.{arith}
use borrow.Author.Tests.{lt-ltb, le-ltb}
use lib.Dec.{eqb}
use lib.ListN.{get_or}
use Rattle.std.specs.Prelude.{Result, Ok, Err}
use Rattle.values.specs.Flags.{stage_flags_bad}
use Rattle.values.specs.Entries.{entry_good}
use Rattle.values.specs.Words.{entry_reserved}
use Rattle.values.specs.Checks.{checked_entry}
use Rattle.values.specs.declared.Entry.{Entry}
use Rattle.values.specs.Refusals.{number_of, answer_number}
use Rattle.values.specs.declared.Refusal.{Refusal}
use Rattle.values.specs.declared.Refusal.TheVariants.{CutShort, UnknownKind, StageFlags, SpecularAdd, VariantFlags, EntryName, EmitTooEarly, NoRoom}
use Rattle.values.specs.declared.Refusal.TheVariants.{InputTooLong, ReservedWord, StageNumber, StateType, StateValue}
use Rattle.wire.specs.Bodies.{kind_byte, kind_of, key_kind, key_from_body, specular_at, specular_byte}
use Rattle.wire.specs.Reading.{kind_from, key_number, body_number, read_record, record_number}
use Rattle.wire.specs.declared.Kind.{Kind}
use Rattle.wire.specs.declared.Kind.TheVariants as kind
use Rattle.wire.specs.declared.Reading.{Reading}
use Rattle.wire.proofs.Found.{read_either}
use Rattle.inspection.specs.Kinds.{kind_read}

-- the number of a key's body
pub of_key : (wide : Bool) (b : List ℕ) → key_number wide b ≡ body_number (key_kind wide) b
unfolding body_number
of_key true b = refl
of_key false b = refl

-- the number of an entry
pub entry_number : (e : Entry) {r : Result (Unit {0}) Refusal} → r ≡ checked_entry e
    → answer_number r ≡ cond (entry_good e) (cond (entry_reserved e) 13 0) 6
entry_number e h = ap answer_number h ∙ go (entry_good e) (entry_reserved e)
  where
    go : (a b : Bool) → answer_number (cond a (cond b (Err ReservedWord) (Ok (tt {0}))) (Err EntryName)) ≡ cond a (cond b 13 0) 6
    go true true = refl
    go true false = refl
    go false b = refl

-- A refusal's number is not 0, and tells which refusal it is; a kind's byte tells the kind.

pub not_zero : (c : Refusal) → number_of c ≡ 0 → ⊥
not_zero CutShort e = omega arith
not_zero UnknownKind e = omega arith
not_zero StageFlags e = omega arith
not_zero SpecularAdd e = omega arith
not_zero VariantFlags e = omega arith
not_zero EntryName e = omega arith
not_zero EmitTooEarly e = omega arith
not_zero NoRoom e = omega arith
not_zero InputTooLong e = omega arith
not_zero ReservedWord e = omega arith
not_zero StageNumber e = omega arith
not_zero StateType e = omega arith
not_zero StateValue e = omega arith

refusal_with : ℕ → Refusal
refusal_with n =
    cond (eqb n 1) CutShort (cond (eqb n 2) UnknownKind (cond (eqb n 3) StageFlags (cond (eqb n 4) SpecularAdd (cond (eqb n 5) VariantFlags
    (cond (eqb n 6) EntryName (cond (eqb n 7) EmitTooEarly (cond (eqb n 8) NoRoom (cond (eqb n 9) InputTooLong (cond (eqb n 13) ReservedWord
    (cond (eqb n 10) StageNumber (cond (eqb n 11) StateType StateValue)))))))))))

refusal_back : (c : Refusal) → refusal_with (number_of c) ≡ c
unfolding refusal_with
refusal_back CutShort = refl
refusal_back UnknownKind = refl
refusal_back StageFlags = refl
refusal_back SpecularAdd = refl
refusal_back VariantFlags = refl
refusal_back EntryName = refl
refusal_back EmitTooEarly = refl
refusal_back NoRoom = refl
refusal_back InputTooLong = refl
refusal_back ReservedWord = refl
refusal_back StageNumber = refl
refusal_back StateType = refl
refusal_back StateValue = refl

pub kind_back : (k : Kind) → kind_from (kind_byte k) ≡ Ok k
kind_back kind.Key = refl
kind_back kind.Variant = refl
kind_back kind.Entry = refl
kind_back kind.Emit = refl
kind_back kind.State = refl
kind_back kind.WideKey = refl

same_refusal : (r : Result Kind Refusal) (c : Refusal) → answer_number r ≡ number_of c → r ≡ Err c
same_refusal (Ok k) c e = absurd (not_zero c (sym e))
same_refusal (Err d) c e = let same : d ≡ c = sym (refusal_back d) ∙ ap refusal_with e ∙ refusal_back c in cc

same_kind : (r : Result Kind Refusal) (k : Kind) (x : ℕ) → answer_number r ≡ 0 → x ≡ kind_byte k → ((j : Kind) → r ≡ Ok j → kind_from x ≡ Ok j) → r ≡ Ok k
same_kind (Ok j) k x e f g = sym (g j refl) ∙ ap kind_from f ∙ kind_back k
same_kind (Err c) k x e f g = absurd (not_zero c e)

-- An answer with the number of the bytes, and with the kind of their first byte where it has one, is that of the record that is read.
pub kind_answer : (b : List ℕ) (r : Result Kind Refusal) → answer_number r ≡ record_number b → ((k : Kind) → r ≡ Ok k → kind_from (get_or b 0 0) ≡ Ok k)
    → r ≡ kind_read (read_record b)
kind_answer b r e f =
    read_either (λ (x : Result Reading Refusal). r ≡ kind_read x) b (λ c n. same_refusal r c (e ∙ n))
    (λ s t. same_kind r (kind_of s) (get_or b 0 0) (e ∙ t.number) t.first f)

-- The tests of a key's body.
module _ (wide : Bool) (b : List ℕ) where
  pub flags_refused : stage_flags_bad (key_from_body wide b).stages ≡ true → 3 ≡ body_number (key_kind wide) b
  flags_refused e = rw (← of_key wide b, e)

  module _ {at : ℕ} (p : at ≡ specular_at wide) (free : stage_flags_bad (key_from_body wide b).stages ≡ false) where
    pub specular_refused : 1 < get_or b at 0 → 4 ≡ body_number (key_kind wide) b
    specular_refused h = rw (← of_key wide b, free, lt-ltb 1 (specular_byte wide b) (rw p at h))

    pub key_passed : get_or b at 0 ≤ 1 → 0 ≡ body_number (key_kind wide) b
    key_passed h = rw (← of_key wide b, free, le-ltb 1 (specular_byte wide b) (rw p at h))

-- What is answered, by cases: a refusal, a record whose value is held now, or a text, each with the number that 01's table gives.
use mathlib.Core.Path.{◌≡◌, refl, sym, ap, ◌∙◌}
use mathlib.Core.Bool.{Bool, false, not, cond}
use mathlib.Core.List.{List}
use Prim.Native.Nat.{ℕ, ◌≤◌}
use lib.Dec.{eqb, ltb}
use lib.ListN.{length}
use Rattle.std.specs.Prelude.{Option, Some, None, Result, Ok, Err}
use Rattle.std.proofs.lemmas.Bool.{cond_both}
use Rattle.values.specs.Flags.{stage_flags_bad, variant_flags_bad}
use Rattle.values.specs.Entries.{entry_good}
use Rattle.values.specs.Words.{entry_reserved}
use Rattle.values.specs.Refusals.{number_of, answer_number}
use Rattle.values.specs.declared.Key.{Key}
use Rattle.values.specs.declared.Variant.{Variant}
use Rattle.values.specs.declared.Entry.{Entry}
use Rattle.values.specs.declared.Emitted.{Emitted}
use Rattle.values.specs.declared.Refusal.{Refusal}
use Rattle.values.specs.declared.Refusal.TheVariants.{CutShort, UnknownKind, StageFlags, SpecularAdd, VariantFlags, EntryName, ReservedWord}
use Rattle.values.specs.declared.Refusal.TheVariants.{EmitTooEarly, NoRoom, InputTooLong, StageNumber, StateType, StateValue}
use Rattle.shader.specs.Results.{text_of, emitted_of, answer_of, emission_number}
use Rattle.shader.proofs.Numbers.{number_of_answer}
use Rattle.wire.specs.Bodies.{kind_of, record_length}
use Rattle.wire.specs.Reading.{read_record}
use Rattle.wire.specs.declared.Record.{Record}
use Rattle.wire.specs.declared.Record.TheVariants as rec
use Rattle.wire.specs.declared.Reading.{Reading}
use Rattle.wire.proofs.Found.{Taken, read_either}
use Rattle.records.specs.Applying.{Values, all_held, emit_answer, text_answer, value_answer, values_number, apply_as, apply_read, apply_answer, applied_number}
use Rattle.records.specs.declared.Held.{Held}
use Rattle.records.specs.declared.Applied.{Applied}

-- The number of what is answered is the one that 01's table gives.

pub positive : (c : Refusal) → eqb (number_of c) 0 ≡ false
positive CutShort = refl
positive UnknownKind = refl
positive StageFlags = refl
positive SpecularAdd = refl
positive VariantFlags = refl
positive EntryName = refl
positive ReservedWord = refl
positive EmitTooEarly = refl
positive NoRoom = refl
positive InputTooLong = refl
positive StageNumber = refl
positive StateType = refl
positive StateValue = refl

text_number : (n : ℕ) (a : Result Emitted Refusal) → answer_number (text_answer n a) ≡ answer_number a
text_number n (Ok e) = refl
text_number n (Err c) = refl

values_number_lem : (x : Option Values) (room : ℕ) → answer_number (emit_answer x room) ≡ values_number x room
values_number_lem None room = refl
values_number_lem (Some x) room = number_of_answer x.key x.variant x.entry room

pub applied_number_lem : {a : Result Applied Refusal} (h : Held) (b : List ℕ) (room : ℕ) → a ≡ apply_answer h b room → answer_number a ≡ applied_number h b room
applied_number_lem h b room e =
    ap answer_number e
    ∙ read_either (λ (x : Result Reading Refusal). answer_number (apply_read x h room) ≡ applied_number h b room) b
    (λ c n. rw (n, positive c)) taken
  where
    taken : (r : Record) → Taken b r → answer_number (apply_as r (record_length (kind_of r)) h room) ≡ applied_number h b room
    taken (rec.Key k) t = rw (t.number, t.first)
    taken (rec.Variant v) t = rw (t.number, t.first)
    taken (rec.Entry e) t = rw (t.number, t.first)
    taken rec.Emit t = rw (t.number, t.first) (text_number 1 (emit_answer (all_held h) room) ∙ values_number_lem (all_held h) room)
    taken (rec.State w) t = rw (t.number, t.first)
    taken (rec.WideKey k) t = rw (t.number, t.first)

-- A record that was read, of any other kind than an emit record, replaces a value.
module _ (x : Reading) (h : Held) (b : List ℕ) (room : ℕ) (e : Ok x ≡ read_record b) (f : x.«record» ≡ rec.Emit → ⊥) where
  by_kind : (r : Record) → (r ≡ rec.Emit → ⊥) → value_answer x.length ≡ apply_as r x.length h room
  by_kind (rec.Key k) f = refl
  by_kind (rec.Variant v) f = refl
  by_kind (rec.Entry e) f = refl
  by_kind rec.Emit f = absurd (f refl)
  by_kind (rec.State w) f = refl
  by_kind (rec.WideKey k) f = refl

  pub replaced_number : 0 ≡ applied_number h b room
  replaced_number = applied_number_lem h b room (by_kind x.«record» f ∙ ap (λ (a : Result Reading Refusal). apply_read a h room) e)

-- P of a refusal and P of a text give P of what emission answers.

by_tests : (P : Result Emitted Refusal → Type 0) (m : Emitted) (three five six thirteen eight : Bool) → ((c : Refusal) → P (Err c)) → P (Ok m) →
    P (cond three (Err StageFlags) (cond five (Err VariantFlags) (cond six (Err EntryName) (cond thirteen (Err ReservedWord)
    (cond eight (Err NoRoom) (Ok m))))))
by_tests P m three five six thirteen eight f g =
    cond_both three _ _ P (λ _. f StageFlags) (λ _.
    cond_both five _ _ P (λ _. f VariantFlags) (λ _.
    cond_both six _ _ P (λ _. f EntryName) (λ _.
    cond_both thirteen _ _ P (λ _. f ReservedWord) (λ _.
    cond_both eight _ _ P (λ _. f NoRoom) (λ _. g)))))

pub emission_cases : (P : Result Emitted Refusal → Type 0) (k : Key) (v : Variant) (e : Entry) (room : ℕ) →
    ((c : Refusal) → emission_number k v e room ≡ number_of c → P (Err c)) → (emission_number k v e room ≡ 0 → P (Ok (emitted_of k v e))) →
    P (answer_of k v e room)
unfolding answer_of
emission_cases P k v e room f g =
    by_tests (λ (a : Result Emitted Refusal). answer_number a ≡ emission_number k v e room → P a) (emitted_of k v e)
    (stage_flags_bad k.stages) (variant_flags_bad v) (not (entry_good e)) (entry_reserved e) (ltb room (length (text_of k v e)))
    (λ c n. f c (sym n)) (λ n. g (sym n)) (number_of_answer k v e room)

-- P of each case
pub record ApplyCases (P : Result Applied Refusal → Type 0) (h : Held) (b : List ℕ) (room : ℕ) : Type 0 where
  pub refusal : (c : Refusal) → applied_number h b room ≡ number_of c → P (Err c)
  pub value : (r : Record) → Taken b r → applied_number h b room ≡ 0 → P (value_answer (record_length (kind_of r)))
  pub text : (x : Values) → all_held h ≡ Some x → 1 ≤ length b → applied_number h b room ≡ 0 → P (text_answer 1 (Ok (emitted_of x.key x.variant x.entry)))

-- P of each case gives P of what is answered.
module _ (P : Result Applied Refusal → Type 0) (h : Held) (b : List ℕ) (room : ℕ) (cases : ApplyCases P h b room) where
  -- P, where the number of an answer is that of the table
  abbrev Q : Result Applied Refusal → Type 0
  Q a = answer_number a ≡ applied_number h b room → P a

  emitted : 1 ≤ length b → (x : Option Values) → all_held h ≡ x → Q (text_answer 1 (emit_answer x room))
  emitted w None e = λ n. cases.refusal EmitTooEarly (sym n)
  emitted w (Some x) e =
      emission_cases (λ (a : Result Emitted Refusal). Q (text_answer 1 a)) x.key x.variant x.entry room
      (λ c _ n. cases.refusal c (sym n)) (λ _ n. cases.text x e w (sym n))

  taken : (r : Record) → Taken b r → Q (apply_as r (record_length (kind_of r)) h room)
  taken (rec.Key k) t n = cases.value (rec.Key k) t (sym n)
  taken (rec.Variant v) t n = cases.value (rec.Variant v) t (sym n)
  taken (rec.Entry e) t n = cases.value (rec.Entry e) t (sym n)
  taken rec.Emit t n = emitted t.within (all_held h) refl n
  taken (rec.State w) t n = cases.value (rec.State w) t (sym n)
  taken (rec.WideKey k) t n = cases.value (rec.WideKey k) t (sym n)

  pub apply_cases : P (apply_answer h b room)
  apply_cases =
      read_either (λ (x : Result Reading Refusal). Q (apply_read x h room)) b (λ c _ n. cases.refusal c (sym n)) taken
      (applied_number_lem h b room refl)

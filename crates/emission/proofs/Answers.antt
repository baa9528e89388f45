-- What an accepted emission answers and writes, from what its parts promise.
use Prim.Native.Nat.{ℕ, ◌≤◌, ◌<◌}
use mathlib.Core.Bool.{Bool, true, false, not, cond}
use mathlib.Core.Path.{◌≡◌, refl, ap, sym, subst, ◌∙◌}
use mathlib.Core.List.{List}
use mathlib.Core.Logic.{by_cases}
use native.Mathlib.Nat.{zero-add, le_trans}
use native.Mathlib.Decide.{dec_le}
use native.Mathlib.Omega.{arith}
use borrow.Author.Tests.{le-ltb, lt-ltb}
use Rattle.std.specs.Prelude.{Result, Ok, Err}
use Rattle.std.proofs.Common.{length-take}
use lib.Dec.{leb, T, leb→le}
use lib.ListN.{length, take, drop}
use lib.Seq.{take_at}
use Rattle.text.specs.Text.{raw, flat}
use Rattle.text.specs.Buffer.{Wrote}
use Rattle.text.proofs.Laws.{whole}
use Rattle.cascade.specs.Keys.{active}
use Rattle.cascade.specs.Effective.{effective_stages}
use Rattle.cascade.specs.Reading.{lookups_of}
use Rattle.cascade.specs.Survey.{survey_of}
use Rattle.values.specs.declared.Key.{Key}
use Rattle.cascade.specs.declared.Survey.{Survey}
use Rattle.shader.specs.Whole.{body_text, whole_text}
use Rattle.values.specs.Flags.{stage_flags_bad, variant_flags_bad}
use Rattle.values.specs.Entries.{entry_good, name_of}
use Rattle.values.specs.Words.{entry_reserved}
use Rattle.values.specs.Admitted.{Admitted}
use Rattle.values.specs.Steps.{◌>>=◌}
use Rattle.values.specs.Checks.{checked_values}
use Rattle.shader.specs.Results.{text_of, in_front, alpha_warning, emitted_of, answer_of, emission_number}
use Rattle.values.specs.Refusals.{answer_number}
use Rattle.shader.specs.Demand.{Demands}
use Rattle.values.specs.declared.Variant.{Variant}
use Rattle.values.specs.declared.Entry.{Entry}
use Rattle.values.specs.declared.Emitted.{Emitted}
use Rattle.values.specs.declared.Refusal.TheVariants.{StageFlags, VariantFlags, EntryName, ReservedWord, NoRoom}
use Rattle.values.specs.declared.Refusal.{Refusal}
use Rattle.lengths.proofs.Longest.{whole_at_most}
use Rattle.shader.proofs.Names.Truth.{and_fst}
use Rattle.shader.proofs.Names.Whole.{demand}
use Rattle.shader.proofs.Numbers.{number_of_answer}

-- a good entry has at most 32 bytes
pub entry_short : (e : Entry) → entry_good e ≡ true → e.len ≤ 32
unfolding entry_good
entry_short e h = leb→le e.len 32 (and_fst (leb e.len 32) _ (subst T (sym h) tt))

-- A whole text: it is no longer than the longest, and stands in a buffer with room for it, also where it was copied from the front of one aside.
module _ (k : Key) (v : Variant) (e : Entry) where
  abbrev text : List ℕ
  text = flat (whole_text k v e)

  pub most_text : v.sample_mask < 256 → length k.stages ≡ 8 → e.len ≤ 32 → length text ≤ 6657
  most_text mask stages len =
      let name : length (name_of e) ≤ 32 = simp length-take (omega (arith, len)) in
      le_trans (whole_at_most k v e mask (omega (arith, stages))) (omega arith)

  module _ {l l' : List ℕ} {at : ℕ} (w : Wrote l 0 l' at (whole_text k v e)) where
    pub placed : length text ≤ length l → (at ≡ length text) × (l' ≡ in_front text l)
    placed h = ((w.fits (rw zero-add h)).1 ∙ rw zero-add, whole w h)

    pub copied : {out out' : List ℕ} {n : ℕ} → at ≤ length l → at ≤ length out → Wrote out 0 out' n (raw (take at l'))
        → (length text ≤ length out) × (out' ≡ in_front text out)
    copied {out} h g c =
        by_cases (dec_le (length text) (length l))
        (λ fits.
        let p = placed fits in
        let room : length text ≤ length out = rw p.0 at g in
        (room, whole (rw (p.1, take_at text (drop (length text) l) _ (sym p.0)) at c) room))
        (λ over. absurd (omega (arith, w.over (omega (arith, over)))))

-- A cause that the check of the values finds is what is answered, and values that pass it are admitted.
abbrev unless : Bool → Refusal → Result (Unit {0}) Refusal
unless cause c = cond cause (Err c) (Ok tt)

abbrev checked : Bool → Bool → Bool → Bool → Result (Unit {0}) Refusal
checked three five name word = do
  _ ← unless three StageFlags
  _ ← unless five VariantFlags
  cond name (unless word ReservedWord) (Err EntryName)

first_cause : (three five name word : Bool) (x : Result Emitted Refusal) {c : Refusal} → Err c ≡ checked three five name word
    → Err c ≡ cond three (Err StageFlags) (cond five (Err VariantFlags) (cond (not name) (Err EntryName) (cond word (Err ReservedWord) x)))
first_cause true five name word x h = cc
first_cause false true name word x h = cc
first_cause false false false word x h = cc
first_cause false false true true x h = cc
first_cause false false true false x h = cc

no_cause : (three five name word : Bool) → Ok tt ≡ checked three five name word
    → (three ≡ false) × ((five ≡ false) × ((name ≡ true) × (word ≡ false)))
no_cause true five name word h = cc
no_cause false true name word h = cc
no_cause false false false word h = cc
no_cause false false true true h = cc
no_cause false false true false h = (refl, (refl, (refl, refl)))

module _ (k : Key) (v : Variant) (e : Entry) where
  pub refused : {c : Refusal} (room : ℕ) → Err c ≡ checked_values k v e → Err c ≡ answer_of k v e room
  unfolding answer_of
  refused room = first_cause (stage_flags_bad k.stages) (variant_flags_bad v) (entry_good e) (entry_reserved e) _

  pub admitted : Ok tt ≡ checked_values k v e → Admitted k v e
  admitted h =
      let free = no_cause (stage_flags_bad k.stages) (variant_flags_bad v) (entry_good e) (entry_reserved e) h in
      record { stage_flags = free.0; variant_flags = free.1.0; entry_name = free.1.1.0; entry_word = free.1.1.1 }

-- The first cause that holds is the one that is answered; of admitted values the room alone decides.
module _ (k : Key) (v : Variant) (e : Entry) (room : ℕ) where
  pub no_room : Admitted k v e → room < length (text_of k v e) → Err NoRoom ≡ answer_of k v e room
  unfolding answer_of
  no_room h l = rw (h.stage_flags, h.variant_flags, h.entry_name, h.entry_word, lt-ltb _ _ l)

  pub with_room : Admitted k v e → length (text_of k v e) ≤ room → Ok (emitted_of k v e) ≡ answer_of k v e room
  unfolding answer_of
  with_room h l = rw (h.stage_flags, h.variant_flags, h.entry_name, h.entry_word, le-ltb _ _ l)

  pub numbered : {a : Result Emitted Refusal} → a ≡ answer_of k v e room → answer_number a ≡ emission_number k v e room
  numbered h = ap answer_number h ∙ number_of_answer k v e room

pub accepted : (k : Key) (v : Variant) (e : Entry) (u : Survey) (at lookups : ℕ) → effective_stages k ≡ k.stages → u ≡ survey_of k.stages
    → at ≡ length (text_of k v e) → lookups ≡ lookups_of u.live (active k.stages)
    → record {
      length = at;
      mask = u.mask;
      rows = u.rows;
      lookups = lookups;
      warnings = u.warnings;
      alpha_warning = alpha_warning v;
    }
    ≡ emitted_of k v e
unfolding survey_of
accepted k v e u at lookups he hu ha hl = rw (hl, ha, hu, he)

-- what is demanded of names holds of what is reported and of the bytes that the buffer then holds
pub demanded : (k : Key) (v : Variant) (e : Entry) (out : List ℕ) {out' : List ℕ} {m : Emitted} → length k.stages ≤ 8 → Admitted k v e
    → m ≡ emitted_of k v e → out' ≡ in_front (text_of k v e) out → Demands k (take m.length out') m
demanded k v e out l h hm ho =
    rw (hm, ho, take_at (text_of k v e) (drop (length (text_of k v e)) out) _ refl) (demand k v e l (subst T (sym h.entry_name) tt))

-- the text of a key whose stages take effect as they are
pub effective_whole : (k : Key) (v : Variant) (e : Entry) → effective_stages k ≡ k.stages → flat (whole_text k v e) ≡ text_of k v e
unfolding whole_text body_text
effective_whole k v e h = rw h

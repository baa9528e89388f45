-- A buffer that takes every text: 8 is not answered there.
use Prim.Native.Nat.{ℕ, ◌≤◌}
use mathlib.Core.Bool.{Bool, true, false, not, cond}
use mathlib.Core.Path.{◌≡◌, ap, sym, ◌∙◌}
use native.Mathlib.Omega.{arith}
use native.Mathlib.Nat.{le_trans}
use borrow.Author.Tests.{le-ltb}
use Rattle.std.specs.Prelude.{Err}
use lib.Dec.{T, leb, ltb, leb→le}
use lib.ListN.{length, length-take}
use Rattle.shader.specs.Results.{text_of, answer_of, emission_number}
use Rattle.shader.proofs.Names.Truth.{and_fst}
use Rattle.shader.proofs.Numbers.{number_of_answer}
use Rattle.values.specs.Entries.{name_of, entry_good}
use Rattle.values.specs.Flags.{stage_flags_bad, variant_flags_bad}
use Rattle.values.specs.Refusals.{answer_number}
use Rattle.values.specs.Words.{entry_reserved}
use Rattle.values.specs.declared.Entry.{Entry}
use Rattle.values.specs.declared.Key.{Key}
use Rattle.values.specs.declared.Refusal.TheVariants.{NoRoom}
use Rattle.values.specs.declared.Variant.{Variant}
use Rattle.lengths.specs.Bounds.{greatest_length, Typed, Permitted}
use Rattle.lengths.proofs.Longest.{any_at_most, at_most_greatest}

module _ (k : Key) (v : Variant) (e : Entry) (n : ℕ) where
  -- a buffer of n bytes takes the text, if the entry is good
  abbrev Takes : Type 0
  Takes = T (entry_good e) → length (text_of k v e) ≤ n

  number_not_eight : Takes → emission_number k v e n ≡ 8 → ⊥
  unfolding emission_number
  number_not_eight takes = go (stage_flags_bad k.stages) (variant_flags_bad v) (entry_good e) (entry_reserved e) (λ g. le-ltb _ _ (takes g))
    where
      go : (three five good word : Bool) → (T good → ltb n (length (text_of k v e)) ≡ false)
          → ◌≡◌ {A = ℕ} (cond three 3 (cond five 5 (cond (not good) 6 (cond word 13 (cond (ltb n (length (text_of k v e))) 8 0))))) 8 → ⊥
      go true five good word f e = omega arith
      go false true good word f e = omega arith
      go false false false word f e = omega arith
      go false false true true f e = omega arith
      go false false true false f e = let z : ◌≡◌ {A = ℕ} 0 8 = rw (f tt) at e in omega arith

  -- 01: "A text has at most 16,384 bytes."
  pub never_eight : length k.stages ≤ 8 → 16384 ≤ n → emission_number k v e n ≡ 8 → ⊥
  unfolding entry_good
  never_eight stages h =
      number_not_eight λ good.
      let l = leb→le e.len 32 (and_fst (leb e.len 32) _ good) in
      let name : length (name_of e) ≤ 32 = simp length-take (omega arith) in
      omega (arith, any_at_most k v e stages)

  -- a slot that is cut to the greatest length
  pub slot_never_no_room : Typed k v → Permitted e → greatest_length k.wide e.len ≤ n → answer_of k v e n ≡ Err NoRoom → ⊥
  slot_never_no_room t p h a =
      number_not_eight (λ good. le_trans (at_most_greatest k v e t p) h) (sym (number_of_answer k v e n) ∙ ap answer_number a)

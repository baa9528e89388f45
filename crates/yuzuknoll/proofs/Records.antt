-- An accepted record is copied, byte for byte; and what yuzuknoll_write promises, in each case of the code.
use Prim.Native.Nat.{ℕ, ◌≤◌, ◌<◌}
use mathlib.Core.Bool.{cond}
use mathlib.Core.Path.{◌≡◌, refl, sym, ap, ◌∙◌}
use mathlib.Core.List.{List, ◌++◌}
use native.Mathlib.Omega.{arith}
use borrow.Author.Tests.{lt-ltb, le-ltb}
use lib.Dec.{ltb}
use lib.ListN.{length, take, drop}
use lib.Seq.{length-take-le}
use Rattle.values.specs.declared.Refusal.TheVariants.{NoRoom}
use Rattle.text.specs.Text.{raw}
use Rattle.text.specs.Buffer.{Wrote}
use Rattle.text.proofs.Laws.{whole}
use Rattle.wire.specs.Bodies.{record_length}
use Rattle.wire.specs.Reading.{read_record, record_number}
use Rattle.wire.specs.Writing.{value_number}
use Rattle.wire.specs.declared.Kind.{Kind}
use Rattle.wire.specs.declared.Record.{Record}
use Rattle.wire.specs.declared.Record.TheVariants as rec
use Rattle.wire.proofs.Bodies.{Bytes, Free}
use Rattle.yuzuknoll.specs.Lent.{after, at_front, record_numbers}
use Rattle.yuzuknoll.specs.Records.{found, kind_in, bytes_in, copy_number}
use Rattle.inspection.proofs.Numbers.{not_zero}
use Rattle.yuzuknoll.proofs.Lent.{left, first_passed}
use Rattle.yuzuknoll.proofs.Checking.{taken}

-- a record without a cause of its own is refused for want of room alone
free_number : (r : Record) (n : ℕ) → Free r → value_number r n ≡ n
unfolding value_number
free_number (rec.Key k) n f = rw f
free_number (rec.Variant v) n f = rw f
free_number (rec.Entry e) n f = rw (f.0, f.1)
free_number rec.Emit n f = refl
free_number (rec.State w) n f = rw f
free_number (rec.WideKey k) n f = rw f

module _ (b : List ℕ) (z : record_number b ≡ 0) where
  copy_number_lem : (room : ℕ) → cond (ltb room (record_length (kind_in b))) 8 0 ≡ copy_number b room
  copy_number_lem room = first_passed refl z (sym (free_number (found (read_record b)) _ (taken b z).free))

  pub bytes_taken : Bytes b → bytes_in b ≡ take (record_length (kind_in b)) b
  bytes_taken w = (taken b z).bytes w

  pub bytes_within : {k : Kind} {n : ℕ} → k ≡ kind_in b → n ≡ record_length k → n ≤ length b
  bytes_within g l = omega (arith, l ∙ ap record_length g, (taken b z).within)

-- An accepted record whose n bytes have room is copied, byte for byte.
pub copied : (b out : List ℕ) (n : ℕ) → Bytes b → record_number b ≡ 0 → record_length (kind_in b) ≡ n → n ≤ length out →
    (copy_number b (length out) ≡ 0) × (at_front (bytes_in b) out ≡ take n b ++ drop n out)
copied b out n w z e h = (
  sym (copy_number_lem b z (length out)) ∙ rw (le-ltb (length out) (record_length (kind_in b)) (omega (arith, e))),
  ap (λ (l : List ℕ). at_front l out) (bytes_taken b z w ∙ ap (λ (m : ℕ). take m b) e)
      ∙ ap (λ (m : ℕ). take n b ++ drop m out) (length-take-le n b (bytes_within b z refl (sym e))),
)

-- what yuzuknoll_write promises: its number, the buffer and the numbers that it leaves
module _ (b out old : List ℕ) where
  abbrev Writes : ℕ → List ℕ → List ℕ → Type 0
  Writes n out' rec' =
      (n ≡ copy_number b (length out)) × ((out' ≡ after n (at_front (bytes_in b) out) out) × (rec' ≡ after n (record_numbers (kind_in b)) old))

  refused : {n : ℕ} → n ≡ copy_number b (length out) → (n ≡ 0 → ⊥) → Writes n out old
  refused q h = (q, (left _ out h, left _ old h))

  module _ (z : record_number b ≡ 0) {k : Kind} (g : k ≡ kind_in b) {n : ℕ} (l : n ≡ record_length k) where
    size : n ≡ record_length (kind_in b)
    size = l ∙ ap record_length g

    over : length out < n → copy_number b (length out) ≡ 8
    over h = sym (copy_number_lem b z (length out)) ∙ rw (lt-ltb (length out) (record_length (kind_in b)) (omega (arith, size)))

    pub write_over : length out < n → Writes 8 out old
    write_over h = refused (sym (over h)) (not_zero NoRoom)

    pub write_copied : {at : ℕ} {out' rec' : List ℕ} → Bytes b → n ≤ length out → Wrote out 0 out' at (raw (take n b)) → rec' ≡ record_numbers k →
        Writes 0 out' rec'
    write_copied w h p q = (
      sym (copied b out n w z (sym size) h).0,
      (
        whole p (omega (arith, length-take-le n b (bytes_within b z g l)))
            ∙ ap (λ (x : List ℕ). at_front x out) (ap (λ (m : ℕ). take m b) size ∙ sym (bytes_taken b z w)),
        q ∙ ap record_numbers g,
      ),
    )

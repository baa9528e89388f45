-- What the calls of yuzuknoll_apply promise, in each case of the code.
use Prim.Native.Nat.{ℕ, ◌+◌, ◌≤◌}
use mathlib.Core.Bool.{Bool, true, false, ◌&&◌, cond}
use mathlib.Core.Path.{◌≡◌, refl, sym, ◌∙◌}
use mathlib.Core.List.{List, ◌++◌}
use native.Mathlib.Omega.{arith}
use borrow.Author.Tests.{eqb-true, ne_eqb}
use lib.Dec.{eqb}
use lib.ListN.{length, take, drop, get_or}
use lib.Seq.{sets}
use Rattle.std.specs.Prelude.{Option, Some, None, is_some}
use Rattle.values.specs.Admitted.{Admitted}
use Rattle.values.specs.declared.Key.{Key}
use Rattle.values.specs.declared.Variant.{Variant}
use Rattle.values.specs.declared.Entry.{Entry}
use Rattle.values.specs.declared.Refusal.TheVariants.{EmitTooEarly}
use Rattle.wire.specs.Bodies.{kind_byte, body_length, key_kind, record_length, key_from_body, variant_from_body, entry_from_body}
use Rattle.wire.specs.Reading.{body_number, record_number}
use Rattle.wire.specs.declared.Kind.{Kind}
use Rattle.wire.specs.declared.Kind.TheVariants as kind
use Rattle.inspection.proofs.Numbers.{not_zero}
use Rattle.records.specs.Applying.{Values, all_of, all_held, emit_number, applied_number}
use Rattle.yuzuknoll.specs.Lent.{after, record_numbers}
use Rattle.yuzuknoll.specs.Records.{kind_in}
use Rattle.yuzuknoll.specs.Applying.{place_of, room_of, held_length, held_byte, held_body, is_record, held_wide, held_if, held_of}
use Rattle.yuzuknoll.specs.Applying.{on_emit, part_with, held_with, text_with, no_result, result_with, applied_numbers, HeldReported}
use Rattle.yuzuknoll.proofs.Lent.{left, first_passed}
use Rattle.yuzuknoll.proofs.Checking.{taken}
use Rattle.yuzuknoll.proofs.Emitting.{Emits, admitted, body_free}

pub both : (a b : Bool) → (a && b) ≡ true → (a ≡ true) × (b ≡ true)
both true b e = (refl, e)
both false b e = absurd (let z : ◌≡◌ {A = ℕ} 0 1 = cc in omega arith)

-- What is held.

-- a part that is held has a body without a cause
pub held_free : (k : Kind) (byte : ℕ) (body : List ℕ) → is_record k byte body ≡ true → body_number k body ≡ 0
held_free k byte body e = eqb-true _ _ (both (eqb byte (kind_byte k)) _ e).1

-- either kind of key has room in the key's part
pub key_within : (wide : Bool) → body_length (key_kind wide) ≤ room_of kind.Key
key_within true = omega arith
key_within false = omega arith

pub key_fits : (wide : Bool) {n : ℕ} → room_of kind.Key ≤ n → body_length (key_kind wide) ≤ n
key_fits wide h = omega (arith, key_within wide)

-- a value is held where its part is good, and all are where each part is
pub one_held : {A : Type 0} (good : Bool) (x : A) → good ≡ is_some (held_if good x)
one_held true x = refl
one_held false x = refl

pub all_good : (k v e : Bool) (x : Key) (y : Variant) (z : Entry) → (k && (v && e)) ≡ is_some (all_of (held_if k x) (held_if v y) (held_if e z))
all_good true true true x y z = refl
all_good true true false x y z = refl
all_good true false e x y z = refl
all_good false v e x y z = refl

-- the kind byte of the key's part
pub wide_key : (held : List ℕ) → get_or held 0 0 ≡ 6 → held_wide held ≡ true
wide_key held e = rw e refl

pub narrow_key : (held : List ℕ) → (get_or held 0 0 ≡ 6 → ⊥) → held_wide held ≡ false
narrow_key held e = ne_eqb _ _ e

-- a key is held where its part is good
pub key_part : (held : List ℕ) → is_some (held_of held).key ≡ is_record (key_kind (held_wide held)) (held_byte kind.Key held) (held_body kind.Key held)
unfolding held_of
key_part held = sym (one_held (is_record (key_kind (held_wide held)) (held_byte kind.Key held) (held_body kind.Key held)) _)

-- a held key, of the kind that the byte tells
pub held_some : (held : List ℕ) {wide : Bool} {k : Key} → is_some (held_of held).key ≡ true → held_wide held ≡ wide
    → k ≡ key_from_body wide (held_body kind.Key held) → Some k ≡ (held_of held).key
unfolding held_of
held_some held t w q = rw (sym (key_part held) ∙ t, w, q)

module _ (held : List ℕ) where
  -- the values that the parts stand for
  abbrev parts : Values
  parts =
      record {
        key = key_from_body (held_wide held) (held_body kind.Key held);
        variant = variant_from_body (held_body kind.Variant held);
        entry = entry_from_body (held_body kind.Entry held);
      }

  -- all are held
  pub record Holding : Type 0 where
    pub all : all_held (held_of held) ≡ Some parts
    pub key_good : body_number (key_kind (held_wide held)) (held_body kind.Key held) ≡ 0
    pub variant_good : body_number kind.Variant (held_body kind.Variant held) ≡ 0
    pub entry_good : body_number kind.Entry (held_body kind.Entry held) ≡ 0

  pub all_held_lem : is_some (all_held (held_of held)) ≡ true → Holding
  unfolding held_of
  all_held_lem e =
      let k = is_record (key_kind (held_wide held)) (held_byte kind.Key held) (held_body kind.Key held) in
      let v = is_record kind.Variant (held_byte kind.Variant held) (held_body kind.Variant held) in
      let w = is_record kind.Entry (held_byte kind.Entry held) (held_body kind.Entry held) in
      let s = both k (v && w) (all_good k v w _ _ _ ∙ e) in
      let u = both v w s.1 in
      record {
        all = rw (s.0, u.0, u.1);
        key_good = held_free (key_kind (held_wide held)) (held_byte kind.Key held) (held_body kind.Key held) s.0;
        variant_good = held_free kind.Variant (held_byte kind.Variant held) (held_body kind.Variant held) u.0;
        entry_good = held_free kind.Entry (held_byte kind.Entry held) (held_body kind.Entry held) u.1;
      }

  -- they are free of causes
  pub held_admitted : {wide : Bool} {v : Variant} {e : Entry} → held_wide held ≡ wide → v ≡ variant_from_body (held_body kind.Variant held)
      → e ≡ entry_from_body (held_body kind.Entry held) → is_some (all_held (held_of held)) ≡ true
      → Admitted (key_from_body wide (held_body kind.Key held)) v e
  held_admitted w q r t =
      let h = all_held_lem t in
      rw (q, r, ← w)
      (admitted (key_from_body (held_wide held) (held_body kind.Key held)) (body_free (held_wide held) (held_body kind.Key held) h.key_good)
      (held_body kind.Variant held) (held_body kind.Entry held) h.variant_good h.entry_good)

not_some : {A : Type 0} (o : Option A) → is_some o ≡ false → o ≡ None
not_some None e = refl
not_some (Some x) e = absurd (let z : ◌≡◌ {A = ℕ} 0 1 = cc in omega arith)

-- Emission from held bytes: its number, the text and the result that it leaves.
module _ (held out res : List ℕ) where
  abbrev pub HeldEmits : ℕ → List ℕ → List ℕ → Type 0
  HeldEmits n out' res' =
      (n ≡ emit_number (held_of held) (length out))
      × ((out' ≡ after n (text_with kind.Emit (held_of held) out) out)
      × ((res' ≡ after n (result_with kind.Emit (held_of held)) res) × (n ≡ 0 → HeldReported (held_of held) out' res')))

  pub too_early : is_some (all_held (held_of held)) ≡ false → HeldEmits 7 out res
  too_early f = (rw (not_some (all_held (held_of held)) f), (refl, (refl, λ z. absurd (not_zero EmitTooEarly z))))

  pub held_emitted : {wide : Bool} {n : ℕ} {out' res' : List ℕ} {v : Variant} {x : Entry} → is_some (all_held (held_of held)) ≡ true → held_wide held ≡ wide
      → v ≡ variant_from_body (held_body kind.Variant held) → x ≡ entry_from_body (held_body kind.Entry held)
      → Emits (key_from_body wide (held_body kind.Key held)) v x out res n out' res' → HeldEmits n out' res'
  unfolding text_with result_with
  held_emitted t w q r s = let h = all_held_lem held t in let y = rw (q, r, ← w) at s in rw h.all y

-- A record of a kind, done.

-- a record that is no emit record
abbrev is_emit : Kind → ℕ
is_emit k = on_emit k 1 0

other : {A : Type 0} (k : Kind) → is_emit k ≡ 0 → (x y : A) → on_emit k x y ≡ y
other kind.Key v x y = refl
other kind.Variant v x y = refl
other kind.Entry v x y = refl
other kind.Emit v x y = absurd (omega arith)
other kind.State v x y = refl
other kind.WideKey v x y = refl

emit_byte : (k : Kind) (n : ℕ) → on_emit k n 0 ≡ cond (eqb (kind_byte k) 4) n 0
emit_byte kind.Key n = refl
emit_byte kind.Variant n = refl
emit_byte kind.Entry n = refl
emit_byte kind.Emit n = refl
emit_byte kind.State n = refl
emit_byte kind.WideKey n = refl

-- one that is kept: its own bytes stand over its part
pub record Keeps (k : Kind) : Type 0 where
  pub other : is_emit k ≡ 0
  pub room : place_of k + record_length k ≤ held_length
  pub part : (b held : List ℕ) → part_with k b held ≡ take (record_length k) b

pub keeps : (k : Kind) → (k ≡ kind.Emit → ⊥) → (k ≡ kind.State → ⊥) → Keeps k
keeps kind.Key p q = record { other = refl; room = omega arith; part = λ b held. refl }
keeps kind.Variant p q = record { other = refl; room = omega arith; part = λ b held. refl }
keeps kind.Entry p q = record { other = refl; room = omega arith; part = λ b held. refl }
keeps kind.Emit p q = absurd (p refl)
keeps kind.State p q = absurd (q refl)
keeps kind.WideKey p q = record { other = refl; room = omega arith; part = λ b held. refl }

-- one that leaves held bytes as they are
pub either_way : (t : Bool) (l : List ℕ) → l ≡ cond t l l
either_way true l = refl
either_way false l = refl

module _ (held b out : List ℕ) (k : Kind) where
  abbrev pub Done : ℕ → List ℕ → List ℕ → List ℕ → Type 0
  Done n held' out' res' =
      (n ≡ on_emit k (emit_number (held_of held) (length out)) 0)
      × ((held' ≡ after n (held_with k b held) held)
      × ((out' ≡ after n (text_with k (held_of held) out) out)
      × ((res' ≡ after n (result_with k (held_of held)) no_result) × (n ≡ 0 → k ≡ kind.Emit → HeldReported (held_of held) out' res'))))

  done_held : {held' : List ℕ} → is_emit k ≡ 0 → held' ≡ held_with k b held → Done 0 held' out no_result
  unfolding text_with result_with
  done_held v p = (rw (other k v), (p, (rw (other k v), (rw (other k v), λ _ f. absurd (let w = rw f at v in omega arith)))))

  pub done_kept : {held' : List ℕ} → Keeps k → held' ≡ sets held (place_of k) (take (record_length k) b) → Done 0 held' out no_result
  unfolding held_with
  done_kept v p = done_held v.other (rw (other k v.other, v.part b held) p)

  pub done_altered : {held' : List ℕ} → k ≡ kind.State → held' ≡ held_with kind.State b held → Done 0 held' out no_result
  done_altered f p = done_held (rw f refl) (rw f p)

-- yuzuknoll_apply: its number, and the held bytes, the text and the numbers that it leaves
module _ (held b out apd : List ℕ) where
  abbrev pub Applies : ℕ → List ℕ → List ℕ → List ℕ → Type 0
  Applies n held' out' apd' =
      (n ≡ applied_number (held_of held) b (length out))
      × ((held' ≡ after n (held_with (kind_in b) b held) held)
      × ((out' ≡ after n (text_with (kind_in b) (held_of held) out) out)
      × ((apd' ≡ after n (applied_numbers (kind_in b) (held_of held)) apd)
      × (n ≡ 0 → kind_in b ≡ kind.Emit → HeldReported (held_of held) out' (drop 2 apd')))))

  module _ (z : record_number b ≡ 0) {k : Kind} (g : k ≡ kind_in b) where
    number : {n : ℕ} → n ≡ on_emit k (emit_number (held_of held) (length out)) 0 → n ≡ applied_number (held_of held) b (length out)
    number p = first_passed refl z (p ∙ rw ((taken b z).first, ← g) (emit_byte k _))

    pub done_refused : {n : ℕ} {held' out' res' : List ℕ} → Done held b out k n held' out' res' → (n ≡ 0 → ⊥) → Applies n held' out' apd
    done_refused s h = (number s.0, (rw (← g) s.1.0, (rw (← g) s.1.1.0, (left _ apd h, λ z. absurd (h z)))))

    pub done_applied : {n : ℕ} {held' out' res' apd' : List ℕ} → Done held b out k n held' out' res' → n ≡ 0 → apd' ≡ record_numbers k ++ res'
        → Applies 0 held' out' apd'
    done_applied s z q =
        let t = rw z at s in (
          number t.0,
          (rw (← g) t.1.0, (rw (← g) t.1.1.0, (q ∙ rw (t.1.1.1.0, g), λ _ f. rw q (t.1.1.1.1 refl (g ∙ f))))),
        )

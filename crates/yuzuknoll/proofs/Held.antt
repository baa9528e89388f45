-- The held bytes stand for what is held: behind a record their values are those that `records::apply` then holds.
use Prim.Native.Nat.{ℕ, suc, ◌+◌, ◌-◌, ◌≤◌, ◌<◌}
use mathlib.Core.Bool.{Bool, true, false, cond}
use mathlib.Core.Path.{◌≡◌, refl, sym, ap, ◌∙◌}
use mathlib.Core.List.{List, [], ◌∷◌, ◌++◌, append_assoc}
use native.Mathlib.Omega.{arith}
use native.Mathlib.Nat.{add-zero}
use borrow.Author.Tests.{ne_eqb}
use lib.Dec.{eqb}
use lib.ListN.{length, take, drop, get_or, set, length-drop}
use lib.Seq.{drop-drop, get_or-take, get_or-drop, sets, sets-eq, length-sets, length-take-le, take-add, take-set-le, drop-set-lt, drop_at, take_at}
use Rattle.std.specs.Prelude.{Result, Err}
use Rattle.values.specs.Flags.{stage_flags_bad}
use Rattle.values.specs.Refusals.{number_of}
use Rattle.values.specs.declared.Key.{Key}
use Rattle.values.specs.declared.Variant.{Variant}
use Rattle.values.specs.declared.Entry.{Entry}
use Rattle.values.specs.declared.StateWrite.{StateWrite}
use Rattle.states.specs.States.{wide_stages}
use Rattle.values.specs.declared.Refusal.{Refusal}
use Rattle.wire.specs.Bodies.{kind_byte, kind_of, key_kind, record_length, key_from_body, variant_from_body, entry_from_body, key_bytes, body_bytes}
use Rattle.wire.specs.Bodies.{record_bytes}
use Rattle.wire.specs.Reading.{took, body_number, record_number}
use Rattle.wire.specs.Values.{key_as, key_record}
use Rattle.wire.specs.declared.Kind.{Kind}
use Rattle.wire.specs.declared.Kind.TheVariants as kind
use Rattle.wire.specs.declared.Reading.{Reading}
use Rattle.wire.specs.declared.Record.TheVariants as rec
use Rattle.wire.proofs.Bodies.{Bytes, Free, Shaped, key_body, key_kind_of, key_shaped, record-length, key_back, specular_back, variant_back, entry_back}
use Rattle.wire.proofs.Found.{Taken, read_cases}
use Rattle.records.specs.Applying as records
use Rattle.records.specs.Applying.{holding, holding_key, emit_number, held_after, applied_number}
use Rattle.records.specs.declared.Held.{Held}
use Rattle.yuzuknoll.specs.Lent.{after}
use Rattle.yuzuknoll.specs.Records.{found, kind_in}
use Rattle.yuzuknoll.specs.Applying.{place_of, room_of, held_length, held_byte, held_body, is_record, held_if, held_of, held_with}
use Rattle.inspection.proofs.Numbers.{not_zero}
use Rattle.yuzuknoll.proofs.Applying.{either_way, key_within}
use Rattle.yuzuknoll.proofs.Altering.{state_in, Recordable, altered, altered_recordable}

-- Bytes laid over a list: what stands before them and behind them stays, and they stand in their place.

take-sets : (v l : List ℕ) (p n : ℕ) → n ≤ p → take n (sets l p v) ≡ take n l
take-sets [] l p n h = refl
take-sets (x ∷ v) l p n h = take-sets v (set l p x) (suc p) n (omega arith) ∙ take-set-le n l p x h

pub drop-sets : (v l : List ℕ) (p n : ℕ) → p + length v ≤ n → drop n (sets l p v) ≡ drop n l
drop-sets [] l p n h = refl
drop-sets (x ∷ v) l p n h = drop-sets v (set l p x) (suc p) n (omega arith) ∙ drop-set-lt n l p x (omega arith)

-- the part of n elements from place p on
part_front : (p n : ℕ) (l : List ℕ) → p ≤ length l → take n (drop p l) ≡ drop p (take (p + n) l)
part_front p n l h = sym (ap (drop p) (take-add p n l) ∙ drop_at (take p l) (take n (drop p l)) p (length-take-le p l h))

-- the part of kind k in held bytes
abbrev part : Kind → List ℕ → List ℕ
part k held = take (1 + room_of k) (drop (place_of k) held)

module _ (held v : List ℕ) (p : ℕ) where
  before : (k : Kind) → place_of k + (1 + room_of k) ≤ p → place_of k ≤ length held → part k (sets held p v) ≡ part k held
  before k h g =
      part_front (place_of k) (1 + room_of k) (sets held p v) (omega (arith, length-sets held p v))
      ∙ ap (drop (place_of k)) (take-sets v held p (place_of k + (1 + room_of k)) h)
      ∙ sym (part_front (place_of k) (1 + room_of k) held g)

  behind : (k : Kind) → p + length v ≤ place_of k → part k (sets held p v) ≡ part k held
  behind k h = ap (take (1 + room_of k)) (drop-sets v held p (place_of k) h)

-- bytes laid over the front of a part, and what stays behind them in the part
laid : (k : Kind) (held v : List ℕ) (m : ℕ) → length v + m ≡ 1 + room_of k → place_of k + (1 + room_of k) ≤ length held →
    part k (sets held (place_of k) v) ≡ v ++ take m (drop (place_of k + length v) held)
laid k held v m e h =
    let p = place_of k in
    let rest = drop (p + length v) held in
    ap (λ (x : List ℕ). take (1 + room_of k) (drop p x)) (sets-eq v held p (omega arith) ∙ append_assoc (take p held) v rest)
    ∙ ap (take (1 + room_of k)) (drop_at (take p held) (v ++ rest) p (length-take-le p held (omega arith)))
    ∙ ap (λ (n : ℕ). take n (v ++ rest)) (sym e)
    ∙ take-add (length v) m (v ++ rest)
    ∙ rw (take_at v rest (length v) refl, drop_at v rest (length v) refl)

-- What is held, by the three parts.

abbrev good : Kind → List ℕ → Bool
good k x = is_record k (get_or x 0 0) (drop 1 x)

abbrev wide_in : List ℕ → Bool
wide_in x = eqb (get_or x 0 0) (kind_byte kind.WideKey)

abbrev held_in : List ℕ → List ℕ → List ℕ → Held
held_in x y z =
    record {
      key = held_if (good (key_kind (wide_in x)) x) (key_from_body (wide_in x) (drop 1 x));
      variant = held_if (good kind.Variant y) (variant_from_body (drop 1 y));
      entry = held_if (good kind.Entry z) (entry_from_body (drop 1 z));
    }

module _ (held : List ℕ) (k : Kind) (h : place_of k < length held) where
  first_of : held_byte k held ≡ get_or (part k held) 0 0
  first_of = sym (get_or-take (1 + room_of k) (drop (place_of k) held) 0 0 (omega arith) ∙ get_or-drop (place_of k) held 0 0 ∙ rw add-zero)

  body_of : held_body k held ≡ drop 1 (part k held)
  body_of =
      ap (take (room_of k)) (sym (drop-drop 1 (place_of k) held))
      ∙ part_front 1 (room_of k) (drop (place_of k) held) (simp length-drop (omega arith))

by_parts : (held : List ℕ) → length held ≡ held_length → held_of held ≡ held_in (part kind.Key held) (part kind.Variant held) (part kind.Entry held)
unfolding held_of
by_parts held h =
    rw (
      first_of held kind.Key (omega arith),
      body_of held kind.Key (omega arith),
      first_of held kind.Variant (omega arith),
      body_of held kind.Variant (omega arith),
      first_of held kind.Entry (omega arith),
      body_of held kind.Entry (omega arith),
    )

-- One part laid anew, with m bytes of before behind it.
module _ (held v : List ℕ) (h : length held ≡ held_length) (m : ℕ) where
  laid_parts : (p : ℕ) → held_of (sets held p v) ≡ held_in (part kind.Key (sets held p v)) (part kind.Variant (sets held p v)) (part kind.Entry (sets held p v))
  laid_parts p = by_parts (sets held p v) (length-sets held p v ∙ h)

  abbrev anew : Kind → List ℕ
  anew k = v ++ take m (drop (place_of k + length v) held)

  key_laid : length v + m ≡ 75 → held_of (sets held 0 v) ≡ held_in (anew kind.Key) (part kind.Variant held) (part kind.Entry held)
  key_laid e =
      laid_parts 0
      ∙ rw (laid kind.Key held v m e (omega arith), behind held v 0 kind.Variant (omega arith), behind held v 0 kind.Entry (omega arith))

  variant_laid : length v + m ≡ 20 → held_of (sets held 75 v) ≡ held_in (part kind.Key held) (anew kind.Variant) (part kind.Entry held)
  variant_laid e =
      laid_parts 75
      ∙ rw (before held v 75 kind.Key (omega arith) (omega arith), laid kind.Variant held v m e (omega arith), behind held v 75 kind.Entry (omega arith))

  entry_laid : length v + m ≡ 34 → held_of (sets held 95 v) ≡ held_in (part kind.Key held) (part kind.Variant held) (anew kind.Entry)
  entry_laid e =
      laid_parts 95
      ∙ rw (
        before held v 95 kind.Key (omega arith) (omega arith),
        before held v 95 kind.Variant (omega arith) (omega arith),
        laid kind.Entry held v m e (omega arith),
      )

-- The record of a key, whatever stands behind it, is held as that key.
module _ (k : Key) (r : Recordable k) where
  key_own : key_as k.wide k ≡ k
  unfolding wide_stages
  key_own = rw r.settled

  key_in : (wide : Bool) (x : List ℕ) → k.wide ≡ wide → key_from_body wide (key_bytes wide k ++ x) ≡ k
  key_in wide x e = key_back wide k x r.eight ∙ ap (λ (w : Bool). key_as w k) (sym e) ∙ key_own

  key_held : (wide : Bool) (u x y z : List ℕ) → k.wide ≡ wide →
      held_in (kind_byte (key_kind wide) ∷ (key_bytes wide k ++ x)) y z ≡ holding_key k (held_in u y z)
  unfolding body_number
  key_held true u x y z e = rw (key_in true x e, r.free, specular_back true k x r.eight)
  key_held false u x y z e = rw (key_in false x e, r.free, specular_back false k x r.eight)

-- The record of a key, laid over the front of held bytes: the key is held, and the rest stays.
pub key_put : (held : List ℕ) → length held ≡ held_length → (k : Key) → Recordable k
    → held_of (sets held 0 (record_bytes (key_record k))) ≡ holding_key k (held_of held)
key_put held h k r =
    let v = record_bytes (key_record k) in
    let within = key_within k.wide in
    let size = record-length (key_record k) (key_shaped k r.eight) ∙ ap record_length (key_kind_of k) in
    rw (key_laid held v h (75 - length v) (omega (arith, size, within)), key_kind_of k, key_body k, by_parts held h)
    (key_held k r k.wide (part kind.Key held) _ (part kind.Variant held) (part kind.Entry held) refl)

-- What was read, applied to held bytes and to the values that they stand for.
module _ (held b : List ℕ) (room : ℕ) (w : Bytes b) (h : length held ≡ held_length) where
  abbrev Stands : Result Reading Refusal → Type 0
  Stands x =
      held_of (after (applied_number (held_of held) b room) (held_with (kind_of (found x)) b held) held) ≡ records.held_by x (held_of held)

  refusal_stands : (c : Refusal) → record_number b ≡ number_of c → Stands (Err c)
  refusal_stands c n = rw (n, ne_eqb (number_of c) 0 (not_zero c), ne_eqb (number_of c) 0 (not_zero c))

  -- a key of either kind is no emit record; its bytes are laid over the front, and it is held
  free_key : (k : Key) → Free (key_record k) → stage_flags_bad k.stages ≡ false
  free_key k = go k.wide
    where
      go : (wide : Bool) → Free (cond wide (rec.WideKey k) (rec.Key k)) → stage_flags_bad k.stages ≡ false
      go true f = f
      go false f = f

  eight_stages : (k : Key) → Shaped (key_record k) → length k.stages ≡ 8
  eight_stages k = go k.wide
    where
      go : (wide : Bool) → Shaped (cond wide (rec.WideKey k) (rec.Key k)) → length k.stages ≡ 8
      go true f = f
      go false f = f

  no_emit : (wide : Bool) (n : ℕ) → cond (eqb (kind_byte (key_kind wide)) (kind_byte kind.Emit)) n 0 ≡ 0
  no_emit true n = refl
  no_emit false n = refl

  over_front : (wide : Bool) → held_with (key_kind wide) b held ≡ sets held 0 (take (record_length (key_kind wide)) b)
  unfolding held_with
  over_front true = refl
  over_front false = refl

  key_holds : (k : Key) (wide : Bool) → holding (cond wide (rec.WideKey k) (rec.Key k)) (held_of held) ≡ holding_key k (held_of held)
  key_holds k true = refl
  key_holds k false = refl

  key_stands : (k : Key) → wide_stages k ≡ k.stages → Taken b (key_record k) → Stands (took (key_record k))
  key_stands k e t =
      let r : Recordable k = record { eight = eight_stages k t.shaped; free = free_key k t.free; settled = e } in
      let first = t.first ∙ ap kind_byte (key_kind_of k) in
      rw (t.number, first, no_emit k.wide, key_kind_of k, over_front k.wide, ← key_kind_of k, ← t.bytes w, key_holds k k.wide) (key_put held h k r)

  variant_stands : (v : Variant) → Taken b (rec.Variant v) → Stands (took (rec.Variant v))
  unfolding held_with body_bytes body_number
  variant_stands v t =
      let whole : length (record_bytes (rec.Variant v)) + 0 ≡ 20 = omega (arith, record-length (rec.Variant v) t.shaped) in
      rw (
        t.number,
        t.first,
        ← t.bytes w,
        variant_laid held (record_bytes (rec.Variant v)) h 0 whole,
        by_parts held h,
        variant_back v,
        t.free,
      )

  entry_stands : (e : Entry) → Taken b (rec.Entry e) → Stands (took (rec.Entry e))
  unfolding held_with body_bytes body_number
  entry_stands e t =
      let whole : length (record_bytes (rec.Entry e)) + 0 ≡ 34 = omega (arith, record-length (rec.Entry e) t.shaped) in
      rw (
        t.number,
        t.first,
        ← t.bytes w,
        entry_laid held (record_bytes (rec.Entry e)) h 0 whole,
        by_parts held h,
        entry_back e [] t.shaped,
        t.free.0,
        t.free.1,
      )

  emit_stands : Stands (took rec.Emit)
  unfolding held_with
  emit_stands = ap held_of (sym (either_way (eqb (applied_number (held_of held) b room) 0) held))

  state_stands : (s : StateWrite) → Taken b (rec.State s) → Stands (took (rec.State s))
  unfolding held_with
  state_stands s t =
      rw (t.number, t.first, state_in b s w t)
      (key_put held h (altered held s) (altered_recordable held s))

  -- The values of the held bytes behind a record are those that `records::apply` holds behind it.
  pub held_stands : held_of (after (applied_number (held_of held) b room) (held_with (kind_in b) b held) held) ≡ held_after (held_of held) b
  held_stands =
      read_cases Stands b
      (record { refusal = refusal_stands; key = key_stands; variant = variant_stands; entry = entry_stands; emit = λ t. emit_stands; state = state_stands })

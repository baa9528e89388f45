-- A state write on held bytes: all of the key that it alters stands in a record free of cause 3, and so does all of the altered key. So its record can be
-- written over the front of the bytes; and where the write leaves the kind of a held key, altering its stage where it lies comes to the same.
use Prim.Native.Nat.{ℕ, ◌-◌, ◌≤◌}
use mathlib.Core.Bool.{Bool, true, false, not, ◌&&◌, ◌||◌, cond, false≢true}
use mathlib.Core.Path.{◌≡◌, refl, sym, ap, ◌∙◌}
use mathlib.Core.List.{List, [], ◌∷◌, ◌++◌, append_assoc}
use native.Mathlib.Omega.{arith}
use native.Mathlib.Nat.{zero-add}
use borrow.Author.Tests.{eqb-true, eq-eqb}
use lib.Dec.{eqb, ltb}
use lib.ListN.{length, take, drop, get_or, length-drop, take-append-drop}
use lib.Seq.{sets, sets-eq, drop-append-le, drop-drop, length-take-le, take_all}
use Rattle.std.specs.Prelude.{Result, is_some}
use Rattle.values.specs.Flags.{stage_flags_bad}
use Rattle.values.specs.declared.Refusal.{Refusal}
use Rattle.values.specs.declared.Key.{Key}
use Rattle.values.specs.declared.StateWrite.{StateWrite}
use Rattle.states.specs.Types.{sets_arg0}
use Rattle.states.specs.States.{defaults, set_state, wide_stages}
use Rattle.states.specs.Writes.{accepted, state_write_number, write_applied}
use Rattle.states.proofs.Keys.{defaults_eight, defaults_free, flags_kept, kept}
use Rattle.states.proofs.Widening.{set_in, wide_after}
use Rattle.wire.specs.Bodies.{kind_of, body_bytes, body_length, key_bytes, key_kind, key_from_body, kind_byte, record_bytes, record_length, state_from_body}
use Rattle.wire.specs.Values.{key_record}
use Rattle.wire.specs.Reading.{body_number, record_number}
use Rattle.wire.specs.Writing.{after_writing, write_answer}
use Rattle.wire.specs.Altering.{Alterable, body_with}
use Rattle.wire.specs.declared.Kind.{Kind}
use Rattle.wire.specs.declared.Kind.TheVariants as kind
use Rattle.wire.specs.declared.Record.{Record}
use Rattle.wire.specs.declared.Record.TheVariants as rec
use Rattle.wire.proofs.Bodies.{Bytes, key_body, key_free, key_kind_of, key_settled, key_shaped, record-length, stages_count, state_back}
use Rattle.wire.proofs.Found.{Taken, front}
use Rattle.wire.proofs.Written.{fits_writes}
use Rattle.records.specs.Applying.{or_defaults, key_or_defaults}
use Rattle.yuzuknoll.specs.Records.{kind_in}
use Rattle.yuzuknoll.specs.Applying.{held_length, held_byte, held_body, held_wide, is_record, held_if, held_of, altered_record}
use Rattle.yuzuknoll.proofs.Checking.{taken}
use Rattle.yuzuknoll.proofs.Emitting.{body_free}
use Rattle.yuzuknoll.proofs.Applying.{both, held_free, key_fits, key_part, key_within}

-- the write of a record that was taken
pub state_in : (b : List ℕ) (s : StateWrite) → Bytes b → Taken b (rec.State s) → state_from_body (drop 1 b) ≡ s
unfolding body_bytes
state_in b s w t =
    ap (λ (l : List ℕ). state_from_body (drop 1 l)) (front b (rec.State s) t w) ∙ state_back s (drop (record_length kind.State) b)

-- the write behind a kind byte, as the code reads it
pub write_read : (b : List ℕ) {s : StateWrite} → 1 ≤ length b → s ≡ state_from_body (take (length b - 1) (drop 1 b)) → s ≡ state_from_body (drop 1 b)
write_read b h e = e ∙ ap state_from_body (take_all (length b - 1) (drop 1 b) (simp length-drop (omega arith)))

-- a state write that has number 0 is accepted
pub write_accepted : (b : List ℕ) → record_number b ≡ 0 → kind_in b ≡ kind.State → accepted (state_from_body (drop 1 b)) ≡ true
unfolding record_number body_number
write_accepted [] z k = absurd (omega arith)
write_accepted (n ∷ b) z k =
    let five : n ≡ 5 = (taken (n ∷ b) z).first ∙ ap kind_byte k in
    go (ltb (length b) 6) (rw five at z)
  where
    go : (short : Bool) → cond short 1 (state_write_number (state_from_body b)) ≡ 0 → accepted (state_from_body b) ≡ true
    go true e = absurd (omega arith)
    go false e = eq-eqb _ 0 e

-- A key all of which stands in a record of its kind, free of cause 3. A record of kind 1 has no arguments 0, so its key has their default.
pub record Recordable (k : Key) : Type 0 where
  pub eight : length k.stages ≡ 8
  pub free : stage_flags_bad k.stages ≡ false
  pub settled : wide_stages k ≡ k.stages

-- A key that was read is one.
read_eight : (wide : Bool) (b : List ℕ) → length (key_from_body wide b).stages ≡ 8
unfolding key_from_body
read_eight wide b = stages_count wide 8 b

read_recordable : (wide : Bool) (b : List ℕ) → body_number (key_kind wide) b ≡ 0 → Recordable (key_from_body wide b)
read_recordable wide b e = record { eight = read_eight wide b; free = body_free wide b e; settled = key_settled wide b }

-- So are the defaults.
defaults_settled : wide_stages defaults ≡ defaults.stages
unfolding wide_stages defaults
defaults_settled = refl

-- So is such a key after a write.
module _ (s : StateWrite) (k : Key) where
  set_settled : wide_stages k ≡ k.stages
      → wide_stages (set_state s.stage s.state s.value k) ≡ (set_state s.stage s.state s.value k).stages
  unfolding set_state
  set_settled e = wide_after s.stage s.state s.value k ∙ ap (set_in s.stage s.state s.value) (go (sets_arg0 s.state))
    where
      go : (b : Bool) → wide_stages k ≡ cond b (wide_stages k) k.stages
      go true = refl
      go false = e

  written_settled : wide_stages k ≡ k.stages → wide_stages (write_applied s k) ≡ (write_applied s k).stages
  unfolding write_applied
  written_settled e = go (accepted s)
    where
      go : (b : Bool)
          → wide_stages (cond b (set_state s.stage s.state s.value k) k) ≡ (cond b (set_state s.stage s.state s.value k) k).stages
      go true = set_settled e
      go false = e

  written_recordable : Recordable k → Recordable (write_applied s k)
  written_recordable r =
      record {
        eight = (kept s k r.eight).stages ∙ r.eight;
        free = flags_kept s k r.eight r.free;
        settled = written_settled r.settled;
      }

module _ (held : List ℕ) where
  abbrev is_key : Bool
  is_key = is_record (key_kind (held_wide held)) (held_byte kind.Key held) (held_body kind.Key held)

  pub before_recordable : Recordable (key_or_defaults (held_of held))
  unfolding held_of
  before_recordable = go is_key refl
    where
      go : (t : Bool) → is_key ≡ t → Recordable (or_defaults (held_if t (key_from_body (held_wide held) (held_body kind.Key held))))
      go true e = read_recordable (held_wide held) (held_body kind.Key held) (held_free (key_kind (held_wide held)) (held_byte kind.Key held) _ e)
      go false e = record { eight = defaults_eight; free = defaults_free; settled = defaults_settled }

  abbrev pub altered : StateWrite → Key
  altered s = write_applied s (key_or_defaults (held_of held))

  pub altered_recordable : (s : StateWrite) → Recordable (altered s)
  altered_recordable s = written_recordable s (key_or_defaults (held_of held)) before_recordable

-- the record of such a key, written to the front of bytes that have room for it
key_written : (held : List ℕ) (k : Key) {a : Result ℕ Refusal} {held' : List ℕ} → length held ≡ held_length → Recordable k →
    a ≡ write_answer (key_record k) (length held) → held' ≡ after_writing a (record_bytes (key_record k)) held →
    held' ≡ sets held 0 (record_bytes (key_record k))
key_written held k h r e p =
    let v = record_bytes (key_record k) in
    let size = record-length (key_record k) (key_shaped k r.eight) in
    let within = key_within k.wide in
    let fits : record_length (kind_of (key_record k)) ≤ length held = omega (arith, within, ap body_length (key_kind_of k)) in
    p ∙ ap (λ (a : Result ℕ Refusal). after_writing a v held) (e ∙ fits_writes (key_record k) (length held) (key_free k r.free) fits)
    ∙ sym (sets-eq v held 0 (omega (arith, size, fits)) ∙ rw zero-add)

-- The record of the altered key, written anew, from what the calls of the code promise.
pub key_rewritten : (held : List ℕ) (w : StateWrite) {before k : Key} {made : Record} {a : Result ℕ Refusal} {held' : List ℕ} → length held ≡ held_length →
    before ≡ key_or_defaults (held_of held) → k ≡ write_applied w before → made ≡ key_record k → a ≡ write_answer made (length held) →
    held' ≡ after_writing a (record_bytes made) held → held' ≡ sets held 0 (altered_record w held)
key_rewritten held w {made = made} h f g m p q =
    let made_of : made ≡ key_record (altered held w) = m ∙ ap key_record (g ∙ ap (write_applied w) f) in
    key_written held (altered held w) h (altered_recordable held w) (rw made_of at p) (rw made_of at q)

-- the first byte
front_byte : (l : List ℕ) → 1 ≤ length l → take 1 l ≡ get_or l 0 0 ∷ []
front_byte [] h = absurd (omega arith)
front_byte (x ∷ l) h = refl

-- A held key altered where it lies.
module _ (held : List ℕ) (w : StateWrite) (h : length held ≡ held_length) (good : accepted w ≡ true)
    (there : (is_some (held_of held).key && (held_wide held || not (sets_arg0 w.state))) ≡ true) where
  abbrev wide : Bool
  wide = held_wide held

  abbrev body : List ℕ
  body = held_body kind.Key held

  held_record : is_key held ≡ true
  unfolding held_of
  held_record = sym (key_part held) ∙ (both (is_some (held_of held).key) _ there).0

  body_size : length body ≡ 74
  body_size = length-take-le 74 (drop 1 held) (simp length-drop (omega arith))

  pub alterable : Alterable wide body w
  alterable =
      record {
        whole = key_fits wide (omega (arith, body_size));
        good = held_free (key_kind wide) (held_byte kind.Key held) body held_record;
        taken = good;
      }

  -- its kind stays
  kind_left : (k t : Bool) → (k || not t) ≡ true → (k || t) ≡ k
  kind_left true t e = refl
  kind_left false true e = absurd (false≢true e)
  kind_left false false e = refl

  altered_kind : (altered held w).wide ≡ wide
  unfolding held_of key_from_body write_applied set_state
  altered_kind = rw (held_record, good) (kind_left wide (sets_arg0 w.state) (both (is_some (held_of held).key) _ there).1)

  held_key : key_or_defaults (held_of held) ≡ key_from_body wide body
  unfolding held_of
  held_key = rw held_record

  -- the record of the altered key: the kind byte that is there, and the altered body
  record_there : altered_record w held ≡ held_byte kind.Key held ∷ key_bytes wide (write_applied w (key_from_body wide body))
  record_there =
      let k = altered held w in
      let byte = eqb-true _ _ (both (eqb (held_byte kind.Key held) (kind_byte (key_kind wide))) _ held_record).0 in
      ap (λ (x : Kind). kind_byte x ∷ body_bytes (key_record k)) (key_kind_of k)
      ∙ ap (λ (l : List ℕ). kind_byte (key_kind k.wide) ∷ l) (key_body k)
      ∙ ap (λ (t : Bool). kind_byte (key_kind t) ∷ key_bytes t k) altered_kind
      ∙ ap (λ (x : ℕ). x ∷ key_bytes wide k) (sym byte)
      ∙ ap (λ (q : Key). held_byte kind.Key held ∷ key_bytes wide (write_applied w q)) held_key

  -- what stands behind the altered body
  behind_there : drop (body_length (key_kind wide)) body ++ drop 74 (drop 1 held) ≡ drop (record_length (key_kind wide)) held
  behind_there =
      let n = body_length (key_kind wide) in
      sym (drop-append-le n body (drop 74 (drop 1 held)) (omega (arith, body_size, key_within wide)))
      ∙ ap (drop n) (take-append-drop 74 (drop 1 held))
      ∙ drop-drop n 1 held

  altered_size : length (altered_record w held) ≡ record_length (key_kind wide)
  altered_size =
      let k = altered held w in
      record-length (key_record k) (key_shaped k (altered_recordable held w).eight)
      ∙ ap record_length (key_kind_of k)
      ∙ ap (λ (t : Bool). record_length (key_kind t)) altered_kind

  record_laid : sets held 0 (altered_record w held) ≡ altered_record w held ++ drop (record_length (key_kind wide)) held
  record_laid =
      let v = altered_record w held in
      sets-eq v held 0 (omega (arith, altered_size, key_within wide)) ∙ ap (λ (n : ℕ). v ++ drop n held) (zero-add (length v) ∙ altered_size)

  pub altered_there : {body' : List ℕ} → body' ≡ body_with wide body w → take 1 held ++ (body' ++ drop 74 (drop 1 held)) ≡ sets held 0 (altered_record w held)
  altered_there {body'} e =
      let k = key_bytes wide (write_applied w (key_from_body wide body)) in
      let rest = drop (body_length (key_kind wide)) body in
      let tail = drop 74 (drop 1 held) in
      let behind = append_assoc k rest tail ∙ ap (λ (l : List ℕ). k ++ l) behind_there in
      ap (λ (l : List ℕ). take 1 held ++ (l ++ tail)) e
      ∙ ap (λ (l : List ℕ). l ++ ((k ++ rest) ++ tail)) (front_byte held (omega arith))
      ∙ ap (λ (l : List ℕ). held_byte kind.Key held ∷ l) behind
      ∙ ap (λ (v : List ℕ). v ++ drop (record_length (key_kind wide)) held) (sym record_there)
      ∙ sym record_laid

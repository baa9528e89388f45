-- Request Ten for the held bytes of yuzuknoll_apply. The records of a list of writes leave, over the front of the bytes, the record of the key that the
-- writes make: a later record covers an earlier one, since no write turns a key back to kind 1. So lists with the same last values leave the same bytes.
use Prim.Native.Nat.{ℕ, ◌+◌, ◌≤◌}
use mathlib.Core.Bool.{Bool, true, false, ◌||◌, cond}
use mathlib.Core.Path.{◌≡◌, refl, sym, ap, ◌∙◌}
use mathlib.Core.List.{List, [], ◌∷◌, ◌++◌}
use native.Mathlib.Omega.{arith}
use borrow.Author.Tests.{eqb-true, ne_eqb}
use lib.Dec.{eqb}
use lib.ListN.{length}
use lib.Seq.{sets, sets-eq, length-sets}
use Rattle.values.specs.Refusals.{number_of}
use Rattle.values.specs.declared.Key.{Key}
use Rattle.values.specs.declared.StateWrite.{StateWrite}
use Rattle.states.specs.Writes.{accepted, any_widens, checked_write, state_write_number, write_applied, writes_applied}
use Rattle.states.specs.Rearranging.{MayChangePlaces}
use Rattle.std.specs.Prelude.{Result}
use Rattle.values.specs.declared.Refusal.{Refusal}
use Rattle.states.proofs.Accepted.{check_cases}
use Rattle.states.proofs.LastWritten.{all_kept, kind_written}
use Rattle.states.proofs.SameLast.{SameLast, same_key}
use Rattle.states.proofs.Rearranged.{by_last}
use Rattle.wire.specs.Bodies.{body_bytes, kind_of, key_kind, record_bytes, record_length}
use Rattle.values.specs.Steps.{◌>>=◌}
use Rattle.wire.specs.Values.{key_record}
use Rattle.wire.specs.Reading.{took, body_number, record_number}
use Rattle.wire.specs.declared.Reading.{Reading}
use Rattle.wire.specs.declared.Record.TheVariants as rec
use Rattle.wire.proofs.Bodies.{key_kind_of, key_shaped, record-length, state_back}
use Rattle.records.specs.Applying.{applied_number, key_or_defaults}
use Rattle.records.proofs.Writes.{any_accepted, none_done, read_write}
use Rattle.records.proofs.Rearranged.{same_accepted}
use Rattle.yuzuknoll.specs.Lent.{after}
use Rattle.yuzuknoll.specs.Records.{found, kind_in}
use Rattle.yuzuknoll.specs.Applying.{held_length, held_of, held_with}
use Rattle.inspection.proofs.Numbers.{not_zero}
use Rattle.yuzuknoll.proofs.Applying.{key_within}
use Rattle.yuzuknoll.proofs.Altering.{altered, altered_recordable, before_recordable}
use Rattle.yuzuknoll.proofs.Held.{drop-sets, key_put}

-- the held bytes behind a record that is given to yuzuknoll_apply, as its contract has them; room is the length of the text's buffer
abbrev pub bytes_after : List ℕ → ℕ → List ℕ → List ℕ
bytes_after b room held = after (applied_number (held_of held) b room) (held_with (kind_in b) b held) held

-- those behind the records of a list of writes, each given by itself, the first of the list first
unfoldable pub bytes_behind : List StateWrite → ℕ → List ℕ → List ℕ
bytes_behind [] room held = held
bytes_behind (w ∷ r) room held = bytes_behind r room (bytes_after (record_bytes (rec.State w)) room held)

-- held bytes with the record of a key over their front
abbrev over : Key → List ℕ → List ℕ
over k held = sets held 0 (record_bytes (key_record k))

-- One write: the record of the altered key stands over the front, or all is left.

zero_or : (n : ℕ) → cond (eqb n 0) 0 n ≡ n
zero_or n = go (eqb n 0) refl
  where
    go : (b : Bool) → eqb n 0 ≡ b → cond b 0 n ≡ n
    go true e = sym (eqb-true n 0 e)
    go false e = refl

write_number_lem : (w : StateWrite) (room : ℕ) (held : List ℕ) → applied_number (held_of held) (record_bytes (rec.State w)) room ≡ state_write_number w
unfolding record_number body_number body_bytes
write_number_lem w room held = rw (state_back w []) (zero_or (state_write_number w))

one_bytes : (w : StateWrite) (room : ℕ) (held : List ℕ)
    → bytes_after (record_bytes (rec.State w)) room held ≡ cond (accepted w) (over (altered held w) held) held
unfolding held_with body_bytes
one_bytes w room held =
    let b = record_bytes (rec.State w) in
    ap (λ (x : Result Reading Refusal). after (applied_number (held_of held) b room) (held_with (kind_of (found x)) b held) held) (read_write w)
    ∙ ap (λ (n : ℕ). after n (held_with (kind_of (found (checked_write w >>= λ _. took (rec.State w)))) b held) held) (write_number_lem w room held)
    ∙ check_cases
    (λ (a : Bool) (n : ℕ) (c : Result (Unit {0}) Refusal).
    after n (held_with (kind_of (found (c >>= λ _. took (rec.State w)))) (record_bytes (rec.State w)) held) held ≡ cond a (over (altered held w) held) held)
    w (λ c. rw (ne_eqb (number_of c) 0 (not_zero c))) (λ _. rw (state_back w []))

-- bytes laid over the front of others, at least as many as were laid there before
laid_again : (u v l : List ℕ) → length u ≤ length v → length v ≤ length l → sets (sets l 0 u) 0 v ≡ sets l 0 v
laid_again u v l h g =
    sets-eq v (sets l 0 u) 0 (omega (arith, length-sets l 0 u)) ∙ ap (λ (x : List ℕ). v ++ x) (drop-sets u l 0 (0 + length v) (omega arith))
    ∙ sym (sets-eq v l 0 (omega arith))

no_shorter : (a b : Bool) → record_length (key_kind a) ≤ record_length (key_kind (a || b))
no_shorter true b = omega arith
no_shorter false true = omega arith
no_shorter false false = omega arith

-- A list behind an accepted write.
module _ (w : StateWrite) (r : List StateWrite) (held : List ℕ) (h : length held ≡ held_length) where
  abbrev made : Key
  made = altered held w

  made_eight : length made.stages ≡ 8
  made_eight = (altered_recordable held w).eight

  abbrev last : Key
  last = writes_applied r made

  key_now : key_or_defaults (held_of (over made held)) ≡ made
  key_now = ap key_or_defaults (key_put held h made (altered_recordable held w))

  covered : over last (over made held) ≡ over last held
  covered =
      let first = record-length (key_record made) (key_shaped made made_eight) ∙ ap record_length (key_kind_of made) in
      let eight = (all_kept r made made_eight).stages ∙ made_eight in
      let second = record-length (key_record last) (key_shaped last eight) ∙ ap record_length (key_kind_of last) in
      let longer : record_length (key_kind made.wide) ≤ record_length (key_kind last.wide) =
      rw (kind_written r made) (no_shorter made.wide (any_widens r)) in
      let within = key_within last.wide in
      laid_again (record_bytes (key_record made)) (record_bytes (key_record last)) held (omega (arith, first, second, longer))
      (omega (arith, second, within, h))

  further : (b : Bool) → any_accepted r ≡ b → cond b (over last (over made held)) (over made held) ≡ over last held
  further true e = covered
  further false e = rw (none_done r made e)

pub over_behind : (ws : List StateWrite) (room : ℕ) (held : List ℕ) → length held ≡ held_length
    → bytes_behind ws room held ≡ cond (any_accepted ws) (over (writes_applied ws (key_or_defaults (held_of held))) held) held
unfolding bytes_behind writes_applied write_applied
over_behind [] room held h = refl
over_behind (w ∷ r) room held h = ap (bytes_behind r room) (one_bytes w room held) ∙ go (over_behind r room) (accepted w) refl
  where
    go : ((g : List ℕ) → length g ≡ held_length
        → bytes_behind r room g ≡ cond (any_accepted r) (over (writes_applied r (key_or_defaults (held_of g))) g) g)
        → (a : Bool) → accepted w ≡ a
        → bytes_behind r room (cond a (over (altered held w) held) held) ≡ cond (a || any_accepted r) (over (writes_applied r (altered held w)) held) held
    go rest true e =
        rest (over (altered held w) held) (length-sets held 0 (record_bytes (key_record (altered held w))) ∙ h)
        ∙ ap
        (λ (k : Key). cond (any_accepted r) (over (writes_applied r k) (over (altered held w) held)) (over (altered held w) held))
        (key_now w r held h)
        ∙ further w r held h (any_accepted r) refl
    go rest false e = rw e (rest held h)

pub same_bytes : (ws xs : List StateWrite) (room : ℕ) (held : List ℕ) → length held ≡ held_length → SameLast ws xs
    → bytes_behind ws room held ≡ bytes_behind xs room held
same_bytes ws xs room held h s =
    over_behind ws room held h
    ∙ rw (same_accepted ws xs s, same_key ws xs (key_or_defaults (held_of held)) (before_recordable held).eight s)
    (sym (over_behind xs room held h))

-- The law, of held bytes, whatever they are.
pub of_bytes : (room : ℕ) (held : List ℕ) → length held ≡ held_length → MayChangePlaces (λ ws. bytes_behind ws room) held
of_bytes room held h = by_last (λ ws. bytes_behind ws room) held (λ ws xs. same_bytes ws xs room held h)

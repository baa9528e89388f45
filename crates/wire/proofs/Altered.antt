-- A write changes the bytes of one stage: laid over the body, they make it the body of the altered key.
use Prim.Native.Nat.{ℕ, zero, suc, ◌+◌, ◌*◌, ◌≤◌, ◌<◌}
use mathlib.Core.Bool.{Bool, true, false, cond}
use mathlib.Core.Path.{◌≡◌, refl, sym, ap, ◌∙◌}
use mathlib.Core.List.{List, [], ◌∷◌, ◌++◌, append_assoc}
use native.Mathlib.Omega.{arith}
use borrow.Author.Tests.{ltb-false}
use lib.Dec.{ltb}
use lib.ListN.{length, drop, get_or, set, length-append, take-append-drop}
use lib.Seq.{sets, sets-eq, drop_at, drop-drop, set-get_or, take_at}
use Rattle.text.specs.Text.{raw}
use Rattle.text.specs.Buffer.{Wrote}
use Rattle.values.specs.declared.Stage.{Stage}
use Rattle.values.specs.declared.Key.{Key}
use Rattle.values.specs.declared.StateWrite.{StateWrite}
use Rattle.states.specs.Types.{sets_arg0}
use Rattle.states.specs.States.{default_stage, set_stage, set_state, stage_at, stages_for, wide_stages}
use Rattle.states.specs.Writes.{write_applied}
use Rattle.states.proofs.Accepted.{free}
use Rattle.values.specs.Flags.{stage_flags_bad}
use Rattle.wire.specs.Bodies.{body_length, key_kind, stage_size, stage_bytes, stages_bytes, key_bytes, specular_byte, stage_from_bytes}
use Rattle.wire.specs.Bodies.{stages_from_bytes, key_from_body}
use Rattle.wire.specs.Reading.{key_number, body_number}
use Rattle.wire.specs.Altering.{Alterable, body_with}
use Rattle.wire.proofs.Laws.{none_before, one_more}
use Rattle.wire.proofs.Bodies.{key_again, key_settled, stage-length, stages_count}

-- each of the eight stages stands in a body
pub stage_within : (wide : Bool) (i : ℕ) → i < 8 → stage_size wide * i + stage_size wide ≤ body_length (key_kind wide)
stage_within true i h = omega arith
stage_within false i h = omega arith

-- where stage i stands among the bytes of stages, whichever stage it is
record Place (wide : Bool) (l : List Stage) (i : ℕ) : Type 0 where
  front : List ℕ
  behind : List ℕ
  size : length front ≡ stage_size wide * i
  whole : (s : Stage) → stages_bytes wide (set l i s) ≡ front ++ (stage_bytes wide s ++ behind)

place : (wide : Bool) (l : List Stage) (i : ℕ) → i < length l → Place wide l i
unfolding stages_bytes
place wide [] i h = absurd (omega arith)
place wide (s ∷ l) zero h = record { front = []; behind = stages_bytes wide l; size = none_before wide; whole = λ r. refl }
place wide (s ∷ l) (suc i) h =
    let p = place wide l i (omega arith) in
    record {
      front = stage_bytes wide s ++ p.front;
      behind = p.behind;
      size = simp length-append (omega (arith, stage-length wide s, p.size, one_more wide i));
      whole = λ r. ap (λ (b : List ℕ). stage_bytes wide s ++ b) (p.whole r) ∙ sym (append_assoc (stage_bytes wide s) p.front _);
    }

-- stage i of a body, as it is read there
stage_of : (wide : Bool) (n i : ℕ) (b : List ℕ) (d : Stage) → i < n
    → get_or (stages_from_bytes wide n b) i d ≡ stage_from_bytes wide (drop (stage_size wide * i) b)
unfolding stages_from_bytes
stage_of wide zero i b d h = absurd (omega arith)
stage_of wide (suc n) zero b d h = ap (λ (m : ℕ). stage_from_bytes wide (drop m b)) (none_before wide)
stage_of wide (suc n) (suc i) b d h =
    let m = stage_size wide in
    stage_of wide n i (drop m b) d (omega arith)
    ∙ ap (stage_from_bytes wide) (drop-drop (m * i) m b ∙ ap (λ (k : ℕ). drop k b) (one_more wide i))

-- a good body has no or yes for specular add
specular_small : (wide : Bool) (b : List ℕ) → body_number (key_kind wide) b ≡ 0 → specular_byte wide b ≤ 1
unfolding body_number
specular_small wide b e = go (stage_flags_bad (key_from_body wide b).stages) (ltb 1 (specular_byte wide b)) refl (number wide ∙ e)
  where
    number : (wide : Bool) → key_number wide b ≡ body_number (key_kind wide) b
    number true = refl
    number false = refl

    go : (flags specular : Bool) → ltb 1 (specular_byte wide b) ≡ specular → ◌≡◌ {A = ℕ} (cond flags 3 (cond specular 4 0)) 0 → specular_byte wide b ≤ 1
    go true specular p e = absurd (omega arith)
    go false true p e = absurd (omega arith)
    go false false p e = omega (arith, ltb-false 1 (specular_byte wide b) p)

-- bytes laid over as many, behind a front
laid_over : (front old new behind : List ℕ) (n : ℕ) → length front ≡ n → length new ≡ length old
    → sets (front ++ (old ++ behind)) n new ≡ front ++ (new ++ behind)
laid_over front old new behind n e f =
    let l = front ++ (old ++ behind) in
    let fits : n + length new ≤ length l = simp length-append (omega arith) in
    let rest : drop (n + length new) l ≡ behind =
    sym (drop-drop (length new) n l) ∙ ap (drop (length new)) (drop_at front (old ++ behind) n e) ∙ drop_at old behind (length new) (sym f) in
    sets-eq new l n fits ∙ rw (take_at front (old ++ behind) n e, rest) (append_assoc front new behind)

module _ (wide : Bool) (b : List ℕ) (w : StateWrite) (a : Alterable wide b w) where
  abbrev key : Key
  key = key_from_body wide b

  abbrev at : ℕ
  at = stage_size wide * w.stage

  -- the stage that the write alters, and the altered one
  abbrev old : Stage
  old = stage_from_bytes wide (drop at b)

  abbrev new : Stage
  new = set_stage w.state w.value old

  key_eight : length key.stages ≡ 8
  unfolding key_from_body
  key_eight = stages_count wide 8 b

  key_stage : stage_at w.stage key.stages ≡ old
  unfolding key_from_body
  key_stage = stage_of wide 8 w.stage b (default_stage 1 1) (free w a.taken).stage

  -- a write alters the stages that such a key has, whatever its type
  own_stages : stages_for w.state key ≡ key.stages
  own_stages = go (sets_arg0 w.state)
    where
      go : (t : Bool) → cond t (wide_stages key) key.stages ≡ key.stages
      go true = key_settled wide b
      go false = refl

  -- the body is that of its key, and what stands behind it
  body_of_key : b ≡ key_bytes wide key ++ drop (body_length (key_kind wide)) b
  body_of_key =
      sym (take-append-drop (body_length (key_kind wide)) b)
      ∙ ap (λ (l : List ℕ). l ++ drop (body_length (key_kind wide)) b) (sym (key_again wide b a.whole (specular_small wide b a.good)))

  altered : sets b at (stage_bytes wide new) ≡ body_with wide b w
  unfolding write_applied set_state key_bytes
  altered =
      let l = key.stages in
      let p = place wide l w.stage (omega (arith, key_eight, (free w a.taken).stage)) in
      let last : List ℕ = cond key.specular_add 1 0 ∷ key.projected ∷ [] in
      let tail = drop (body_length (key_kind wide)) b in
      let rest = p.behind ++ (last ++ tail) in
      let body : (s : Stage) → (stages_bytes wide (set l w.stage s) ++ last) ++ tail ≡ p.front ++ (stage_bytes wide s ++ rest) =
      λ s. rw (p.whole s) (simp append_assoc) in
      let before : b ≡ p.front ++ (stage_bytes wide old ++ rest) =
      body_of_key
      ∙ ap (λ (l : List Stage). (stages_bytes wide l ++ last) ++ tail) (sym (set-get_or l w.stage (default_stage 1 1)))
      ∙ body (stage_at w.stage l)
      ∙ rw key_stage in
      let after : body_with wide b w ≡ p.front ++ (stage_bytes wide new ++ rest) = rw (a.taken, own_stages, key_stage) (body new) in
      ap (λ (l : List ℕ). sets l at (stage_bytes wide new)) before
      ∙ laid_over p.front (stage_bytes wide old) (stage_bytes wide new) rest at p.size (stage-length wide new ∙ sym (stage-length wide old))
      ∙ sym after

  -- the altered stage is written over the one that was there
  stage_fits : at + length (stage_bytes wide new) ≤ length b
  stage_fits = omega (arith, stage-length wide new, stage_within wide w.stage (free w a.taken).stage, a.whole)

  pub altered_body : {l : List ℕ} {next : ℕ} → Wrote b at l next (raw (stage_bytes wide new)) → l ≡ body_with wide b w
  altered_body p = (p.fits stage_fits).0 ∙ altered

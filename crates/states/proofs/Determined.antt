-- What a key holds for each stage and type determines it: two keys that agree on that, and on what no type reaches, are equal.
use Prim.Native.Nat.{ℕ, ◌<◌, ◌/◌, ◌%◌}
use mathlib.Core.Path.{◌≡◌, refl, sym, ap, ◌∙◌}
use mathlib.Core.Bool.{Bool, true, false, ◌||◌, cond}
use mathlib.Core.List.{List}
use mathlib.Core.Option.{get_or}
use native.Mathlib.Omega.{arith}
use borrow.Author.Tests.{eqb-true, eqb-false}
use lib.Dec.{eqb}
use lib.ListN.{length}
use lib.Seq.{ext_get_or}
use Rattle.values.specs.declared.Stage.{Stage}
use Rattle.values.specs.declared.Key.{Key}
use Rattle.values.specs.declared.StateWrite.{StateWrite}
use Rattle.values.specs.Flags.{stage_flags_bad}
use Rattle.states.specs.Types.{colour_op, colour_arg1, colour_arg2, colour_arg0, alpha_op, alpha_arg1, alpha_arg2, alpha_arg0, result_arg, texture_bound}
use Rattle.values.specs.Kinds.{default_arg0, seven_bytes}
use Rattle.states.specs.States.{default_stage, get_state, result_arg_of, stage_at, stage_state, wide_stages}
use Rattle.states.specs.Writes.{any_widens, last_written, writes_applied}
use Rattle.states.proofs.Stages.{no_spare}
use Rattle.states.proofs.Widening.{wide_stage}
use Rattle.states.proofs.Keys.{Kept, arguments0, spare, unread}
use Rattle.states.proofs.LastWritten.{all_kept, kind_written, last_written_lem}

result_bit : (a b : ℕ) → result_arg_of a ≡ result_arg_of b → a / 2 % 2 ≡ b / 2 % 2
result_bit a b e = go (eqb (a / 2 % 2) 0) (eqb (b / 2 % 2) 0) refl refl e
  where
    go : (p q : Bool) → eqb (a / 2 % 2) 0 ≡ p → eqb (b / 2 % 2) 0 ≡ q → ◌≡◌ {A = ℕ} (cond p 1 5) (cond q 1 5) → a / 2 % 2 ≡ b / 2 % 2
    go true true f g e = omega (arith, eqb-true (a / 2 % 2) 0 f, eqb-true (b / 2 % 2) 0 g)
    go true false f g e = absurd (omega arith)
    go false true f g e = absurd (omega arith)
    go false false f g e = omega (arith, eqb-false (a / 2 % 2) 0 f, eqb-false (b / 2 % 2) 0 g)

-- two stages of a kind
stage_determined : (wide : Bool) (s r : Stage) → ((t : ℕ) → stage_state t (cond wide s (seven_bytes s)) ≡ stage_state t (cond wide r (seven_bytes r)))
    → s.flags / 4 ≡ r.flags / 4 → (wide ≡ false → arguments0 s ≡ arguments0 r) → s ≡ r
unfolding stage_state
stage_determined true s r h e u =
    let bit = result_bit s.flags r.flags (h result_arg) in
    let low : s.flags % 2 ≡ r.flags % 2 = h texture_bound in
    let flags : s.flags ≡ r.flags = omega arith in
    λ i.
    record {
      colour = record { op = h colour_op i; arg1 = h colour_arg1 i; arg2 = h colour_arg2 i; arg0 = h colour_arg0 i };
      alpha = record { op = h alpha_op i; arg1 = h alpha_arg1 i; arg2 = h alpha_arg2 i; arg0 = h alpha_arg0 i };
      flags = flags i;
    }
stage_determined false s r h e u =
    let bit = result_bit s.flags r.flags (h result_arg) in
    let low : s.flags % 2 ≡ r.flags % 2 = h texture_bound in
    let flags : s.flags ≡ r.flags = omega arith in
    λ i.
    record {
      colour = record { op = h colour_op i; arg1 = h colour_arg1 i; arg2 = h colour_arg2 i; arg0 = (u refl i).0 };
      alpha = record { op = h alpha_op i; arg1 = h alpha_arg1 i; arg2 = h alpha_arg2 i; arg0 = (u refl i).1 };
      flags = flags i;
    }

-- the two keys are of one kind, have eight stages, hold the same states, and agree on what no type reaches
pub record Alike (k l : Key) : Type 0 where
  pub left : length k.stages ≡ 8
  pub right : length l.stages ≡ 8
  pub states : (i t : ℕ) → i < 8 → get_state i t k ≡ get_state i t l
  pub flags : (i : ℕ) → i < 8 → spare i k ≡ spare i l
  pub specular : k.specular_add ≡ l.specular_add
  pub projected : k.projected ≡ l.projected
  pub kind : k.wide ≡ l.wide
  pub unread : k.wide ≡ false → (i : ℕ) → i < 8 → unread i k ≡ unread i l

pub alike : {k l : Key} → Alike k l → k ≡ l
unfolding get_state
alike {k} {l} a =
    let stages : k.stages ≡ l.stages =
    ext_get_or (default_stage 1 1) k.stages l.stages (a.left ∙ sym a.right)
    (λ i h.
    let below : i < 8 = omega (arith, a.left) in
    stage_determined k.wide (stage_at i k.stages) (stage_at i l.stages)
    (λ t. rw (wide_stage i k, wide_stage i l, ← a.kind) at (a.states i t below)) (a.flags i below) (λ n. a.unread n i below)) in
    λ i. record { stages = stages i; specular_add = a.specular i; projected = a.projected i; wide = a.kind i }

-- in a kind 1 key whose stages are those of kind 6, the default stands in the places of arguments 0
default_unread : (i : ℕ) (k : Key) → wide_stages k ≡ k.stages → k.wide ≡ false → unread i k ≡ (default_arg0, default_arg0)
default_unread i k d n =
    ap arguments0 (ap (stage_at i) (sym d) ∙ wide_stage i k) ∙ rw n

-- keys that are free of cause 3 have no such bits, and those that a record gives have the default for what stands unread
pub determined : (k l : Key) → length k.stages ≡ 8 → length l.stages ≡ 8 → stage_flags_bad k.stages ≡ false → stage_flags_bad l.stages ≡ false
    → wide_stages k ≡ k.stages → wide_stages l ≡ l.stages → ((i t : ℕ) → i < 8 → get_state i t k ≡ get_state i t l)
    → k.specular_add ≡ l.specular_add → k.projected ≡ l.projected → k.wide ≡ l.wide → k ≡ l
determined k l m n p q d e h s r w =
    alike
    (record {
      left = m;
      right = n;
      states = h;
      flags = λ i b. no_spare k.stages i (default_stage 1 1) p (omega (arith, m)) ∙ sym (no_spare l.stages i (default_stage 1 1) q (omega (arith, n)));
      specular = s;
      projected = r;
      kind = w;
      unread = λ z i b. default_unread i k d z ∙ sym (default_unread i l e (sym w ∙ z));
    })

-- So the law, with the kind and what writes leave, determines what a list of writes does.
pub only : (ws : List StateWrite) (k l : Key) → length k.stages ≡ 8 → Kept k l
    → ((i t : ℕ) → get_state i t l ≡ get_or (last_written i t ws) (get_state i t k)) → l.wide ≡ (k.wide || any_widens ws) → l ≡ writes_applied ws k
only ws k l eight a h w =
    let b = all_kept ws k eight in
    let kind = w ∙ sym (kind_written ws k) in
    alike
    (record {
      left = a.stages ∙ eight;
      right = b.stages ∙ eight;
      states = λ i t _. h i t ∙ sym (last_written_lem ws k eight i t);
      flags = λ i _. a.spared i ∙ sym (b.spared i);
      specular = a.specular ∙ sym b.specular;
      projected = a.projected ∙ sym b.projected;
      kind = kind;
      unread = λ n i _. a.unread n i ∙ sym (b.unread (sym kind ∙ n) i);
    })

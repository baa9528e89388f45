-- A key after one write: what it holds then for each stage and type, and what the write leaves.
use Prim.Native.Nat.{ℕ, ◌<◌, ◌/◌}
use mathlib.Core.Path.{◌≡◌, refl, sym, ap, ◌∙◌}
use mathlib.Core.Bool.{Bool, true, false, ◌&&◌, ◌||◌, or-false, cond}
use mathlib.Core.List.{List}
use native.Mathlib.Omega.{arith}
use borrow.Author.Tests.{eqb-true, eqb-false}
use lib.Dec.{eqb}
use lib.ListN.{length, length-set}
use lib.Seq.{get_or-set_other, get_or-set_same}
use Rattle.values.specs.declared.Stage.{Stage}
use Rattle.values.specs.declared.Key.{Key}
use Rattle.values.specs.declared.StateWrite.{StateWrite}
use Rattle.values.specs.Flags.{stage_flags_bad}
use Rattle.states.specs.Types.{alpha_arg0, colour_arg0, sets_arg0}
use Rattle.values.specs.Kinds.{seven_bytes}
use Rattle.states.specs.States.{default_stage, defaults, get_state, set_stage, set_state, stage_at, stage_state, stages_for, wide_stages}
use Rattle.states.specs.Writes.{accepted, widens, writes, write_applied}
use Rattle.states.proofs.Bits.{flags_after}
use Rattle.states.proofs.Stages.{neither, no_spare, spare_free, stage_after}
use Rattle.states.proofs.Widening.{for_length, set_in, wide_after, wide-length, wide_stage}
use Rattle.states.proofs.Accepted.{Accepted, free}

-- stage j after a write at stage i
stage_after_set : (i j t v : ℕ) (l : List Stage) → i < length l → stage_at j (set_in i t v l) ≡ cond (eqb i j) (set_stage t v (stage_at j l)) (stage_at j l)
stage_after_set i j t v l h = go (eqb i j) refl
  where
    go : (b : Bool) → eqb i j ≡ b → stage_at j (set_in i t v l) ≡ cond b (set_stage t v (stage_at j l)) (stage_at j l)
    go true e = let z = eqb-true i j e in rw (← z) (get_or-set_same l i (set_stage t v (stage_at i l)) (default_stage 1 1) h)
    go false e = get_or-set_other l i j (set_stage t v (stage_at i l)) (default_stage 1 1) (λ z. eqb-false i j e (sym z))

-- one write that is accepted, and one that may be refused
pub one_set : (w : StateWrite) (k : Key) → length k.stages ≡ 8 → accepted w ≡ true → (i t : ℕ)
    → get_state i t (set_state w.stage w.state w.value k) ≡ cond (eqb w.stage i && eqb w.state t) w.value (get_state i t k)
unfolding get_state
one_set w k eight e i t =
    let a = free w e in
    let below : w.stage < length (wide_stages k) = omega (arith, a.stage, wide-length k) in
    ap (λ (l : List Stage). stage_state t (stage_at i l)) (wide_after w.stage w.state w.value k)
    ∙ ap (stage_state t) (stage_after_set w.stage i w.state w.value (wide_stages k) below) ∙ go (eqb w.stage i) a
  where
    go : (b : Bool) → Accepted w
        → stage_state t (cond b (set_stage w.state w.value (stage_at i (wide_stages k))) (stage_at i (wide_stages k)))
        ≡ cond (b && eqb w.state t) w.value (stage_state t (stage_at i (wide_stages k)))
    go true a = stage_after w.state w.value (stage_at i (wide_stages k)) a.state a.value t
    go false a = refl

pub one_written : (w : StateWrite) (k : Key) → length k.stages ≡ 8 → (i t : ℕ)
    → get_state i t (write_applied w k) ≡ cond (writes w i t) w.value (get_state i t k)
unfolding write_applied
one_written w k eight i t = go (accepted w) refl
  where
    go : (b : Bool) → accepted w ≡ b → get_state i t (write_applied w k) ≡ cond (writes w i t) w.value (get_state i t k)
    go true e = rw e (one_set w k eight e i t)
    go false e = rw e

-- a write of an argument 0 makes the key one of kind 6, and every other leaves the kind
pub one_kind : (w : StateWrite) (k : Key) → (write_applied w k).wide ≡ (k.wide || widens w)
unfolding write_applied set_state
one_kind w k = go (accepted w)
  where
    go : (b : Bool) → (cond b (set_state w.stage w.state w.value k) k).wide ≡ (k.wide || (b && sets_arg0 w.state))
    go true = refl
    go false = sym (or-false k.wide)

-- the bits of a stage's flags that no type reaches
abbrev pub spare : ℕ → Key → ℕ
spare i k = (stage_at i k.stages).flags / 4

-- what stands in the places of arguments 0, which no type reaches in a kind 1 key
abbrev pub arguments0 : Stage → ℕ × ℕ
arguments0 s = (s.colour.arg0, s.alpha.arg0)

abbrev pub unread : ℕ → Key → ℕ × ℕ
unread i k = arguments0 (stage_at i k.stages)

module _ (w : StateWrite) (k : Key) (eight : length k.stages ≡ 8) (e : accepted w ≡ true) (i : ℕ) where
  a : Accepted w
  a = free w e

  written : stage_at i (set_state w.stage w.state w.value k).stages
      ≡ cond (eqb w.stage i) (set_stage w.state w.value (stage_at i (stages_for w.state k))) (stage_at i (stages_for w.state k))
  unfolding set_state
  written = stage_after_set w.stage i w.state w.value (stages_for w.state k) (omega (arith, a.stage, for_length w.state k))

  flags_for : (stage_at i (stages_for w.state k)).flags ≡ (stage_at i k.stages).flags
  flags_for = go (sets_arg0 w.state)
    where
      kind : (wide : Bool) → (cond wide (stage_at i k.stages) (seven_bytes (stage_at i k.stages))).flags ≡ (stage_at i k.stages).flags
      kind true = refl
      kind false = refl

      go : (b : Bool) → (stage_at i (cond b (wide_stages k) k.stages)).flags ≡ (stage_at i k.stages).flags
      go true = ap (λ (s : Stage). s.flags) (wide_stage i k) ∙ kind k.wide
      go false = refl

  spare_set : spare i (set_state w.stage w.state w.value k) ≡ spare i k
  unfolding set_stage
  spare_set = ap (λ (s : Stage). s.flags / 4) written ∙ go (eqb w.stage i) ∙ ap (λ (f : ℕ). f / 4) flags_for
    where
      go : (b : Bool)
          → (cond b (set_stage w.state w.value (stage_at i (stages_for w.state k))) (stage_at i (stages_for w.state k))).flags / 4
          ≡ (stage_at i (stages_for w.state k)).flags / 4
      go true = (flags_after w.state w.value (stage_at i (stages_for w.state k)).flags a.value).rest
      go false = refl

  unread_set : sets_arg0 w.state ≡ false → unread i (set_state w.stage w.state w.value k) ≡ unread i k
  unfolding set_stage
  unread_set f =
      let n = neither (eqb w.state colour_arg0) (eqb w.state alpha_arg0) f in
      ap arguments0 written ∙ rw f (go (eqb w.stage i) n)
    where
      go : (b : Bool) → (eqb w.state colour_arg0 ≡ false) × (eqb w.state alpha_arg0 ≡ false)
          → arguments0 (cond b (set_stage w.state w.value (stage_at i k.stages)) (stage_at i k.stages)) ≡ unread i k
      go true n = rw (n.0, n.1)
      go false n = refl

-- what a write leaves: the number of stages, and all that no type reaches; and it turns no key to kind 1
pub record Kept (k l : Key) : Type 0 where
  pub stages : length l.stages ≡ length k.stages
  pub spared : (i : ℕ) → spare i l ≡ spare i k
  pub specular : l.specular_add ≡ k.specular_add
  pub projected : l.projected ≡ k.projected
  pub kind : l.wide ≡ false → k.wide ≡ false
  pub unread : l.wide ≡ false → (i : ℕ) → unread i l ≡ unread i k

pub kept : (w : StateWrite) (k : Key) → length k.stages ≡ 8 → Kept k (write_applied w k)
unfolding write_applied set_state
kept w k eight = go (accepted w) refl
  where
    go : (b : Bool) → accepted w ≡ b → Kept k (cond b (set_state w.stage w.state w.value k) k)
    go true e =
        record {
          stages = length-set (stages_for w.state k) w.stage _ ∙ for_length w.state k;
          spared = spare_set w k eight e;
          specular = refl;
          projected = refl;
          kind = λ n. (neither k.wide (sets_arg0 w.state) n).0;
          unread = λ n i. unread_set w k eight e i (neither k.wide (sets_arg0 w.state) n).1;
        }
    go false e = record { stages = refl; spared = λ i. refl; specular = refl; projected = refl; kind = λ n. n; unread = λ n i. refl }

-- so a key that is free of cause 3 stays so
pub flags_kept : (w : StateWrite) (k : Key) → length k.stages ≡ 8 → stage_flags_bad k.stages ≡ false → stage_flags_bad (write_applied w k).stages ≡ false
flags_kept w k eight e =
    let l = kept w k eight in
    spare_free (write_applied w k).stages (default_stage 1 1)
    (λ i h. l.spared i ∙ no_spare k.stages i (default_stage 1 1) e (omega (arith, l.stages)))

-- the defaults have eight stages, free of cause 3
pub defaults_eight : length defaults.stages ≡ 8
unfolding defaults
defaults_eight = refl

pub defaults_free : stage_flags_bad defaults.stages ≡ false
unfolding defaults stage_flags_bad
defaults_free = refl

-- What the rules of the key give: where a kept argument is read, which stages have a texture, how rows and lookups are counted.
use Prim.Native.Nat.{ℕ, zero, suc, ◌+◌, ◌*◌, ◌/◌, ◌%◌, ◌≤◌, ◌<◌}
use mathlib.Core.Path.{◌≡◌}
use mathlib.Core.List.{List, [], ◌∷◌}
use mathlib.Core.Bool.{Bool, true, false, not, ◌&&◌, ◌||◌, cond}
use native.Mathlib.Omega.{arith}
use lib.Dec.{T, eqb, eqb→eq, T_not}
use lib.ListN.{length}
use Rattle.combiners.specs.Codes.{disable, select_arg2, blend_factor_alpha, texture, factor, constant}
use Rattle.combiners.specs.Combiners.{has_text, keeps_first, keeps_second}
use Rattle.cascade.specs.Keys.{textured, to_temp, active, selects, third, some, reads, reads_first, reads_second, falls_back, is_bump_op, bump, alpha_from_colour, stages_where, mask_of, reads_constant, names_factor, last_constant, any_factor, rows_of}
use Rattle.cascade.specs.Stages.{fallback, combined, alpha_of}
use Rattle.cascade.specs.Reading.{keeps, reads_texel_by, alpha_written, reads_temp, reads_texel, live, lined, marked, lookups_of, luminance, reads_bump_env}
use Rattle.values.specs.declared.Combiner.{Combiner}
use Rattle.values.specs.declared.Stage.{Stage}
use Rattle.cascade.specs.declared.Alpha.{Alpha}
use Rattle.cascade.specs.declared.Alpha.TheVariants.{FromColour, Kept, Written}
use Rattle.shader.specs.Demand.{set_bits}
use Rattle.shader.proofs.Names.Truth.{and_fst, and_snd, both, inl, inr, either, neither_fst, cond_cases}

-- an op that is not 1 reads what it keeps
not_either : (a b : Bool) → T (not a) → T (not b) → T (not (a || b))
not_either true b s t = absurd s
not_either false b s t = t

keeps_reads : (k : ℕ) (tex : Bool) (c : Combiner) → T (not (eqb c.op disable)) → T (keeps k tex c) → T (reads k c)
unfolding keeps reads
keeps_reads k tex c n =
    either (keeps_first tex c.op && selects k c.arg1) _
    (λ t. inl (reads_first c.op && selects k c.arg1) _
    (both (reads_first c.op) _
    (not_either (eqb c.op disable) _ n (neither_fst (eqb c.op select_arg2) _ (and_fst (keeps_first tex c.op) _ t)))
    (and_snd (keeps_first tex c.op) _ t)))
    (either (keeps_second tex c.op && selects k c.arg2) (third (selects k) c)
    (λ t. inr (reads_first c.op && selects k c.arg1) _
    (inl (reads_second c.op && selects k c.arg2) _
    (both (reads_second c.op) _
    (not_either (eqb c.op disable) _ n (and_snd (has_text c.op) _ (and_fst (keeps_second tex c.op) _ t)))
    (and_snd (keeps_second tex c.op) _ t))))
    (λ t. inr (reads_first c.op && selects k c.arg1) _ (inr (reads_second c.op && selects k c.arg2) _ t)))

keeps_selects : (k : ℕ) (tex : Bool) (c : Combiner) → T (keeps k tex c) → T (some (selects k) c)
unfolding keeps
keeps_selects k tex c =
    either (keeps_first tex c.op && selects k c.arg1) _ (λ t. inl (selects k c.arg1) _ (and_snd (keeps_first tex c.op) _ t))
    (either (keeps_second tex c.op && selects k c.arg2) (third (selects k) c)
    (λ t. inr (selects k c.arg1) _ (inl (selects k c.arg2) _ (and_snd (keeps_second tex c.op) _ t)))
    (λ t. inr (selects k c.arg1) _ (inr (selects k c.arg2) _ t)))

-- what reads the texel has a texture
read_bound : (tex : Bool) (c : Combiner) → T (not (eqb c.op disable)) → T (reads_texel_by tex c) → T tex
unfolding falls_back
read_bound true c n t = tt
read_bound false c n t =
    either (keeps texture false c) false
    (λ k. absurd (T_not (reads texture c) (and_fst (not (reads texture c)) _ t) (keeps_reads texture false c n k))) (λ x. x)
    (and_snd (not (reads texture c)) _ t)

written_enabled : (s : Stage) → T (alpha_written s) → T (not (eqb s.alpha.op disable))
unfolding alpha_written
written_enabled s t = and_fst (not (eqb s.alpha.op disable)) _ (and_snd (not (alpha_from_colour s)) _ t)

texel_bound : (s : Stage) → T (not (eqb s.colour.op disable)) → T (reads_texel s) → T (textured s)
unfolding reads_texel
texel_bound s n =
    either (reads_texel_by (textured s) s.colour) (alpha_written s && reads_texel_by (textured s) s.alpha)
    (read_bound (textured s) s.colour n)
    (λ t. read_bound (textured s) s.alpha (written_enabled s (and_fst (alpha_written s) _ t)) (and_snd (alpha_written s) _ t))

pub marked_bound : (alive : Bool) (s : Stage) (r : List Stage) → T (not (eqb s.colour.op disable)) → T (marked alive (s ∷ r))
    → T (textured s)
unfolding marked
marked_bound alive s r n =
    cond_cases (bump s) _ _ (λ m. T m → T (textured s)) (λ b t. and_fst (textured s) _ t)
    (λ b t. texel_bound s n (and_snd (lined alive s) _ t))

-- no active stage is disabled
abbrev pub Enabled : List Stage → Type 0
Enabled [] = Unit {0}
Enabled (s ∷ r) = T (not (eqb s.colour.op disable)) × Enabled r

pub active_enabled : (ss : List Stage) → Enabled (active ss)
unfolding active
active_enabled [] = tt
active_enabled (s ∷ r) = let e = active_enabled r in cond_cases (eqb s.colour.op disable) _ _ Enabled (λ t. tt) (λ t. (t, e))

pub active_short : (ss : List Stage) → length (active ss) ≤ length ss
unfolding active
active_short [] = omega arith
active_short (s ∷ r) =
    let h = active_short r in cond_cases (eqb s.colour.op disable) _ _ (λ (x : List Stage). length x ≤ suc (length r))
    (λ t. omega arith) (λ t. omega arith)

-- the lookups are no more than the mask's bits
pub lookups_masked_lem : (alive : Bool) (n : ℕ) (ss : List Stage) → length ss ≤ n → Enabled ss → lookups_of alive ss ≤ set_bits n (mask_of ss)
unfolding lookups_of stages_where
lookups_masked_lem alive n [] l e = omega arith
lookups_masked_lem alive zero (s ∷ r) l e = absurd (omega arith)
lookups_masked_lem alive (suc n) (s ∷ r) l e =
    go (marked alive (s ∷ r)) (textured s) (marked_bound alive s r e.0) (lookups_masked_lem alive n r (omega arith) e.1)
  where
    M : ℕ
    M = mask_of r

    go : (m t : Bool) → (T m → T t) → lookups_of alive r ≤ set_bits n M
        → cond m (suc (lookups_of alive r)) (lookups_of alive r) ≤ (cond t 1 0 + 2 * M) % 2 + set_bits n ((cond t 1 0 + 2 * M) / 2)
    go m true f h =
        let p : (1 + 2 * M) % 2 ≡ 1 = omega arith in
        let q : (1 + 2 * M) / 2 ≡ M = omega arith in
        rw (p, q) (cond_cases m _ _ (λ x. x ≤ 1 + set_bits n M) (λ x. omega arith) (λ x. omega arith))
    go true false f h = absurd (f tt)
    go false false f h =
        let p : (0 + 2 * M) % 2 ≡ 0 = omega arith in
        let q : (0 + 2 * M) / 2 ≡ M = omega arith in
        rw (p, q) (omega arith)

-- the cases of a stage's alpha
pub alpha_cases : (s : Stage) (P : Alpha → Type 0) → P FromColour → P Kept → P (Written fallback)
    → (T (not (alpha_from_colour s)) → T (not (eqb s.alpha.op disable)) → T (not (falls_back (textured s) s.alpha))
    → T (alpha_written s) → P (Written (combined (textured s) s.alpha)))
    → P (alpha_of s)
unfolding alpha_of alpha_written
alpha_cases s P c k f x =
    cond_cases (alpha_from_colour s) _ _ P (λ t. c) λ n.
    cond_cases (eqb s.alpha.op disable) _ _ P (λ t. k) λ e.
    cond_cases (falls_back (textured s) s.alpha) _ _ P (λ t. f) λ b.
    cond_cases (is_bump_op s.alpha.op) _ _ P (λ t. k) λ m.
    x n e b (both (not (alpha_from_colour s)) _ n
    (both (not (eqb s.alpha.op disable)) _ e (inr (falls_back (textured s) s.alpha) _ m)))

-- rows: a kept constant, a kept factor and the op that blends by the factor are counted
pub colour_constant : (s : Stage) → T (not (eqb s.colour.op disable)) → T (not (falls_back (textured s) s.colour))
    → T (keeps constant (textured s) s.colour) → T (reads_constant s)
unfolding reads_constant
colour_constant s n f k =
    inl (not (falls_back (textured s) s.colour) && reads constant s.colour) _
    (both (not (falls_back (textured s) s.colour)) _ f (keeps_reads constant (textured s) s.colour n k))

pub alpha_constant : (s : Stage) → T (not (alpha_from_colour s)) → T (not (eqb s.alpha.op disable))
    → T (not (falls_back (textured s) s.alpha)) → T (keeps constant (textured s) s.alpha)
    → T (reads_constant s)
unfolding reads_constant
alpha_constant s c n f k =
    inr (not (falls_back (textured s) s.colour) && reads constant s.colour) _
    (both (not (alpha_from_colour s)) _ c
    (both (not (falls_back (textured s) s.alpha)) _ f (keeps_reads constant (textured s) s.alpha n k)))

pub colour_factor : (s : Stage) → T (keeps factor (textured s) s.colour || eqb s.colour.op blend_factor_alpha) → T (names_factor s)
unfolding names_factor
colour_factor s =
    either (keeps factor (textured s) s.colour) (eqb s.colour.op blend_factor_alpha)
    (λ t. inr (eqb s.colour.op blend_factor_alpha || eqb s.alpha.op blend_factor_alpha) _
    (inl (some (selects factor) s.colour) _ (keeps_selects factor (textured s) s.colour t)))
    (λ t. inl (eqb s.colour.op blend_factor_alpha || eqb s.alpha.op blend_factor_alpha) _
    (inl (eqb s.colour.op blend_factor_alpha) _ t))

pub alpha_factor : (s : Stage) → T (not (eqb s.alpha.op disable))
    → T (keeps factor (textured s) s.alpha || eqb s.alpha.op blend_factor_alpha) → T (names_factor s)
unfolding names_factor
alpha_factor s n =
    either (keeps factor (textured s) s.alpha) (eqb s.alpha.op blend_factor_alpha)
    (λ t. inr (eqb s.colour.op blend_factor_alpha || eqb s.alpha.op blend_factor_alpha) _
    (inr (some (selects factor) s.colour) _
    (both (not (eqb s.alpha.op disable)) _ n (keeps_selects factor (textured s) s.alpha t))))
    (λ t. inl (eqb s.colour.op blend_factor_alpha || eqb s.alpha.op blend_factor_alpha) _
    (inr (eqb s.colour.op blend_factor_alpha) _ t))

some_row : (x : ℕ) → T (not (eqb x 0)) → 0 < x
some_row zero h = absurd h
some_row (suc x) h = omega arith

last_low : (i : ℕ) (ss : List Stage) → T (not (eqb (last_constant i ss) 0)) → i + 2 ≤ last_constant i ss
unfolding last_constant
last_low i [] = λ h. absurd h
last_low i (s ∷ r) =
    let later = last_low (suc i) r in
    cond_cases (eqb (last_constant (suc i) r) 0) _ _ (λ (x : ℕ). T (not (eqb x 0)) → i + 2 ≤ x)
    (λ z. cond_cases (reads_constant s) (i + 2) 0 (λ (x : ℕ). T (not (eqb x 0)) → i + 2 ≤ x) (λ t h. omega arith) (λ t h. absurd h))
    (λ n h. omega (arith, later n))

pub last_head : (i : ℕ) (s : Stage) (r : List Stage) → T (reads_constant s) → i + 2 ≤ last_constant i (s ∷ r)
unfolding last_constant
last_head i s r t =
    cond_cases (eqb (last_constant (suc i) r) 0) _ _ (λ (x : ℕ). i + 2 ≤ x)
    (λ z. cond_cases (reads_constant s) (i + 2) 0 (λ (x : ℕ). i + 2 ≤ x) (λ u. omega arith) (λ n. absurd (T_not (reads_constant s) n t)))
    (λ n. omega (arith, last_low (suc i) r n))

pub last_tail : (i : ℕ) (s : Stage) (r : List Stage) → last_constant (suc i) r ≤ last_constant i (s ∷ r)
unfolding last_constant
last_tail i s r =
    cond_cases (eqb (last_constant (suc i) r) 0) _ _ (λ (x : ℕ). last_constant (suc i) r ≤ x)
    (λ z. omega (arith, eqb→eq (last_constant (suc i) r) 0 z)) (λ n. omega arith)

pub rows_last : (ss : List Stage) → last_constant 0 ss ≤ rows_of ss
unfolding rows_of
rows_last ss =
    cond_cases (eqb (last_constant 0 ss) 0) _ _ (λ (x : ℕ). last_constant 0 ss ≤ x) (λ z. omega (arith, eqb→eq (last_constant 0 ss) 0 z))
    (λ n. omega arith)

pub rows_factor : (ss : List Stage) → T (any_factor ss) → 0 < rows_of ss
unfolding rows_of
rows_factor ss t =
    cond_cases (eqb (last_constant 0 ss) 0) _ _ (λ (x : ℕ). 0 < x)
    (λ z. cond_cases (any_factor ss) 1 0 (λ (x : ℕ). 0 < x) (λ u. omega arith) (λ n. absurd (T_not (any_factor ss) n t)))
    (λ n. some_row (last_constant 0 ss) n)

-- what holds of a stage, and of the stages behind it, holds of the list
pub factor_head : (s : Stage) (r : List Stage) → T (names_factor s) → T (any_factor (s ∷ r))
unfolding any_factor
factor_head s r t = inl (names_factor s) _ t

pub factor_tail : (s : Stage) (r : List Stage) → T (any_factor r) → T (any_factor (s ∷ r))
unfolding any_factor
factor_tail s r t = inr (names_factor s) _ t

pub live_head : (s : Stage) (r : List Stage) → T (not (bump s)) → T (reads_temp s) → T (live (s ∷ r))
unfolding live
live_head s r n t = inl (not (bump s) && reads_temp s) _ (both (not (bump s)) _ n t)

pub live_tail : (s : Stage) (r : List Stage) → T (live r) → T (live (s ∷ r))
unfolding live
live_tail s r t = inr (not (bump s) && reads_temp s) _ t

pub env_head : (alive : Bool) (s : Stage) (r : List Stage) → T (marked alive r) → T (bump s) → T (textured s || luminance s)
    → T (reads_bump_env alive (s ∷ r))
unfolding reads_bump_env
env_head alive s r m b t =
    inl (bump s && (marked alive r && (textured s || luminance s))) _ (both (bump s) _ b (both (marked alive r) _ m t))

pub env_tail : (alive : Bool) (s : Stage) (r : List Stage) → T (reads_bump_env alive r) → T (reads_bump_env alive (s ∷ r))
unfolding reads_bump_env
env_tail alive s r t = inr (bump s && (marked alive r && (textured s || luminance s))) _ t

pub mark_bump : (alive : Bool) (s : Stage) (r : List Stage) → T (marked alive r) → T (bump s) → T (textured s) → T (marked alive (s ∷ r))
unfolding marked
mark_bump alive s r m b t = cond_cases (bump s) _ _ T (λ u. both (textured s) _ t m) (λ n. absurd (T_not (bump s) n b))

pub mark_line : (alive : Bool) (s : Stage) (r : List Stage) → T (not (bump s)) → T (lined alive s) → T (reads_texel s)
    → T (marked alive (s ∷ r))
unfolding marked
mark_line alive s r n l t = cond_cases (bump s) _ _ T (λ b. absurd (T_not (bump s) n b)) (λ u. both (lined alive s) _ l t)

pub lined_temp : (alive : Bool) (s : Stage) → T (lined alive s) → T (to_temp s) → T alive
unfolding lined
lined_temp true s l t = tt
lined_temp false s l t = T_not (to_temp s && true) l (both (to_temp s) true t tt)

-- what the colour expression reads, and the alpha expression where it is written, the stage reads
module _ (by : Bool → Combiner → Bool) (s : Stage) where
  abbrev stage_reads : Bool
  stage_reads = by (textured s) s.colour || (alpha_written s && by (textured s) s.alpha)

  pub colour_reads : T (by (textured s) s.colour) → T stage_reads
  colour_reads t = inl (by (textured s) s.colour) _ t

  pub alpha_reads : T (alpha_written s) → T (by (textured s) s.alpha) → T stage_reads
  alpha_reads w t = inr (by (textured s) s.colour) _ (both (alpha_written s) _ w t)

-- An expression. An argument takes at most 24 bytes, 9 fewer where it is the stage's texel and 7 fewer where it is TEMP; so an expression that reads one
-- of them is that much short of the longest of its operation.
use Prim.Native.Nat.{ℕ, ◌+◌, ◌*◌, ◌≤◌, ◌<◌}
use mathlib.Core.Bool.{Bool, true, false, not, ◌&&◌, ◌||◌, cond}
use mathlib.Core.Path.{◌≡◌, refl, sym, subst}
use mathlib.Core.List.{List, [], ◌∷◌}
use native.Mathlib.Omega.{arith}
use lib.Dec.{T, eqb, leb, leb→le, eqb→eq, lit≤}
use lib.ListN.{length}
use Rattle.text.specs.Text.{Text, none, bytes}
use Rattle.text.specs.Format.{Piece, words, slot, cut, Slot, ◌≔◌, same, find, fill}
use Rattle.text.proofs.Size.{most}
use Rattle.text.proofs.Slots.{mentions}
use Rattle.combiners.specs.Codes.{selector, texture, temp, dot_product3}
use Rattle.combiners.specs.Arguments.{texel_name, constant_row, source_of, source_text, replicated, arg_of, arg_text}
use Rattle.combiners.specs.Combiners.{op_codes, look, op_of, template, op_text, expression_text, keeps_first, keeps_second, three_operands, reads_own_texel}
use Rattle.combiners.specs.declared.Op.{Op}
use Rattle.combiners.specs.declared.Op.TheVariants.{Other}
use Rattle.combiners.specs.declared.Expression.{Expression}
use Rattle.cascade.specs.Keys.{selects, third}
use Rattle.cascade.specs.Reading.{keeps}
use Rattle.cascade.specs.Stages.{current_arg, fallback, arg0_of, combined}
use Rattle.shader.proofs.Names.Truth.{and_fst, and_snd, cond_cases, below_at}
use Rattle.shader.proofs.Names.Operations.{mentions_kept_lem}
use Rattle.values.specs.declared.Combiner.{Combiner}
use Rattle.lengths.proofs.Sums.{flag, or_le, and_or_le, and_le}

-- ---------------------------------------------------------------- arguments

-- what an argument is short of the longest
abbrev short : Bool → ℕ → ℕ
short tex a = 9 * flag (tex && selects texture a) + 7 * flag (selects temp a)

-- one test over the sixteen selectors
abbrev source_fits : ℕ → Bool → ℕ → Bool
source_fits i tex s = leb (most (source_text i (source_of tex s)) + (cond (tex && eqb s texture) 9 0 + cond (eqb s temp) 7 0)) 11

source_fits_lem : (i : ℕ) (tex : Bool) (s : ℕ) → s < 16 → T (source_fits i tex s)
unfolding source_text texel_name constant_row
source_fits_lem i true s h = below_at (source_fits i true) 16 s tt h
source_fits_lem i false s h = below_at (source_fits i false) 16 s tt h

source_le : (i : ℕ) (tex : Bool) (a : ℕ) → most (source_text i (source_of tex (selector a))) + short tex a ≤ 11
unfolding flag
source_le i tex a = go (tex && selects texture a) (selects temp a) (leb→le _ _ (source_fits_lem i tex (selector a) (omega arith)))
  where
    go : (p q : Bool) → most (source_text i (source_of tex (selector a))) + (cond p 9 0 + cond q 7 0) ≤ 11
        → most (source_text i (source_of tex (selector a))) + (9 * flag p + 7 * flag q) ≤ 11
    go true true h = omega arith
    go true false h = omega arith
    go false true h = omega arith
    go false false h = omega arith

arg_le : (i : ℕ) (tex : Bool) (a : ℕ) → most (arg_text i (arg_of tex a)) + short tex a ≤ 24
unfolding arg_text replicated
arg_le i tex a = omega (arith, source_le i tex a)

current_le : (i : ℕ) → most (arg_text i current_arg) ≤ 24
unfolding arg_text replicated source_text
current_le i = lit≤ tt

-- ---------------------------------------------------------------- operations

-- the length of a template, its slots filled with so many bytes each
abbrev weigh : ℕ → ℕ → ℕ → ℕ → List Piece → ℕ
weigh a b t z [] = 0
weigh a b t z (words w ∷ r) = length w + weigh a b t z r
weigh a b t z (slot w ∷ r) =
    cond (same (bytes "a") w) a 0 + cond (same (bytes "b") w) b 0 + cond (same (bytes "t") w) t 0 + cond (same (bytes "z") w) z 0
    + weigh a b t z r

first_le : (p q r s : Bool) (a b t z : Text)
    → most (cond p a (cond q b (cond r t (cond s z none)))) ≤ cond p (most a) 0 + cond q (most b) 0 + cond r (most t) 0 + cond s (most z) 0
first_le true q r s a b t z = omega arith
first_le false true r s a b t z = omega arith
first_le false false true s a b t z = omega arith
first_le false false false true a b t z = omega arith
first_le false false false false a b t z = omega arith

module _ (a b t z : Text) where
  abbrev slots : List Slot
  slots = ("a" ≔ a) ∷ ("b" ≔ b) ∷ ("t" ≔ t) ∷ ("z" ≔ z) ∷ []

  abbrev filling : List Piece → ℕ
  filling ps = weigh (most a) (most b) (most t) (most z) ps

  find_le : (w : List ℕ) → most (find slots w) ≤ filling (slot w ∷ [])
  find_le w = omega (arith, first_le (same (bytes "a") w) (same (bytes "b") w) (same (bytes "t") w) (same (bytes "z") w) a b t z)

  fill_le : (ps : List Piece) → most (fill slots ps) ≤ filling ps
  fill_le [] = omega arith
  fill_le (words w ∷ []) = omega arith
  fill_le (slot w ∷ []) = find_le w
  fill_le (words w ∷ (q ∷ r)) = omega (arith, fill_le (q ∷ r))
  fill_le (slot w ∷ (q ∷ r)) = omega (arith, find_le w, fill_le (q ∷ r))

-- operands that are short by u, v and w make a template that mentions them as much shorter
spare_le : (p q : Bool) (x u n : ℕ) → x + u ≤ n → cond p x 0 + cond (p || q) u 0 ≤ cond p n 0 + cond q u 0
spare_le true true x u n h = omega arith
spare_le true false x u n h = omega arith
spare_le false q x u n h = omega arith

module _ (a b t z u v w : ℕ) (first : a + u ≤ 24) (second : b + v ≤ 24) (third : z + w ≤ 24) where
  abbrev spared : List Piece → ℕ
  spared ps = cond (mentions "a" ps) u 0 + cond (mentions "b" ps) v 0 + cond (mentions "z" ps) w 0

  weigh_le : (ps : List Piece) → weigh a b t z ps + spared ps ≤ weigh 24 24 t 24 ps
  weigh_le [] = omega arith
  weigh_le (words x ∷ r) = omega (arith, weigh_le r)
  weigh_le (slot x ∷ r) =
      omega (
        arith,
        weigh_le r,
        spare_le (same (bytes "a") x) (mentions "a" r) a u 24 first,
        spare_le (same (bytes "b") x) (mentions "b" r) b v 24 second,
        spare_le (same (bytes "z") x) (mentions "z" r) z w 24 third,
      )

-- the longest text of an operation: the two of three operands have the longest, and the dot product has the longest of the others
abbrev pub budget : ℕ → ℕ
budget c = cond (three_operands c) 115 (cond (eqb c dot_product3) 103 100)

-- one test over the codes, its own texel's 9 counted
abbrev op_fits : Bool → ℕ → Op → Bool
op_fits tex c o = leb (weigh 24 24 2 24 (cut (template o tex)) + cond (reads_own_texel tex c) 9 0) (budget c)

abbrev all_fit : Bool → List (ℕ × Op) → Bool
all_fit tex [] = true
all_fit tex (e ∷ r) = op_fits tex e.0 e.1 && all_fit tex r

other_fits : (tex : Bool) (c : ℕ) → T (op_fits tex c Other)
other_fits tex c = go (reads_own_texel tex c) (three_operands c) (eqb c dot_product3)
  where
    go : (own three dot : Bool) → T (leb (24 + cond own 9 0) (cond three 115 (cond dot 103 100)))
    go true true dot = tt
    go true false true = tt
    go true false false = tt
    go false true dot = tt
    go false false true = tt
    go false false false = tt

look_fits : (tex : Bool) (t : List (ℕ × Op)) (c : ℕ) → T (all_fit tex t) → T (op_fits tex c (look t c))
look_fits tex [] c h = other_fits tex c
look_fits tex (e ∷ r) c h =
    cond_cases (eqb c e.0) e.1 (look r c) (λ o. T (op_fits tex c o))
    (λ k. subst (λ (n : ℕ). T (op_fits tex n e.1)) (sym (eqb→eq c e.0 k)) (and_fst (op_fits tex e.0 e.1) _ h))
    (λ k. look_fits tex r c (and_snd (op_fits tex e.0 e.1) _ h))

own_le : (b : Bool) (x n : ℕ) → x + cond b 9 0 ≤ n → x + 9 * flag b ≤ n
unfolding flag
own_le true x n h = omega arith
own_le false x n h = omega arith

op_le : (tex : Bool) (c : ℕ) → weigh 24 24 2 24 (cut (template (op_of c) tex)) + 9 * flag (reads_own_texel tex c) ≤ budget c
op_le true c = own_le (reads_own_texel true c) _ _ (leb→le _ _ (look_fits true op_codes c tt))
op_le false c = own_le (reads_own_texel false c) _ _ (leb→le _ _ (look_fits false op_codes c tt))

-- ---------------------------------------------------------------- expressions

-- a kept argument is short by what it selects
kept_le : (tex k x y : Bool) → 9 * flag (tex && (k && x)) + 7 * flag (k && y) ≤ cond k (9 * flag (tex && x) + 7 * flag y) 0
unfolding flag
kept_le tex true x y = omega arith
kept_le true false x y = omega arith
kept_le false false x y = omega arith

-- argument 0 counts only where the op has it
arg0_le : (i : ℕ) (tex : Bool) (c : Combiner) → most (arg_text i (arg0_of tex c)) + cond (three_operands c.op) (short tex c.arg0) 0 ≤ 24
arg0_le i tex c = go (three_operands c.op)
  where
    go : (b : Bool) → most (arg_text i (cond b (arg_of tex c.arg0) current_arg)) + cond b (short tex c.arg0) 0 ≤ 24
    go true = arg_le i tex c.arg0
    go false = omega (arith, current_le i)

again : (b : Bool) (n : ℕ) → cond b (cond b n 0) 0 ≡ cond b n 0
again true n = refl
again false n = refl

texel_most : (i : ℕ) → most (texel_name i) ≡ 2
unfolding texel_name
texel_most i = refl

-- what an expression's reading makes it short
abbrev pub credit : Bool → Bool → Bool → ℕ
credit tex texel temp = 9 * flag (tex && texel) + 7 * flag temp

pub combined_le : (i : ℕ) (tex : Bool) (c : Combiner)
    → most (expression_text i tex (combined tex c)) + credit tex (keeps texture tex c || reads_own_texel tex c.op) (keeps temp tex c) ≤ budget c.op
unfolding expression_text op_text keeps
combined_le i tex c =
    let a = arg_text i (arg_of tex c.arg1) in
    let b = arg_text i (arg_of tex c.arg2) in
    let z = arg_text i (arg0_of tex c) in
    let ps = cut (template (op_of c.op) tex) in
    let kept = mentions_kept_lem tex c.op in
    let k1 = keeps_first tex c.op in
    let k2 = keeps_second tex c.op in
    let k3 = three_operands c.op in
    let own = reads_own_texel tex c.op in
    let t1 = k1 && selects texture c.arg1 in
    let t2 = k2 && selects texture c.arg2 in
    let t3 = third (selects texture) c in
    let m1 = k1 && selects temp c.arg1 in
    let m2 = k2 && selects temp c.arg2 in
    let m3 = third (selects temp) c in
    let shorter =
    rw (texel_most i, kept.first, kept.second, kept.third, again k3 (short tex c.arg0))
    at (weigh_le (most a) (most b) (most (texel_name i)) (most z) (short tex c.arg1) (short tex c.arg2) (cond k3 (short tex c.arg0) 0)
    (arg_le i tex c.arg1) (arg_le i tex c.arg2) (arg0_le i tex c) ps) in
    omega (
      arith,
      shorter,
      rw (texel_most i) at (fill_le a b (texel_name i) z ps),
      op_le tex c.op,
      kept_le tex k1 (selects texture c.arg1) (selects temp c.arg1),
      kept_le tex k2 (selects texture c.arg2) (selects temp c.arg2),
      kept_le tex k3 (selects texture c.arg0) (selects temp c.arg0),
      and_or_le tex (t1 || (t2 || t3)) own,
      and_or_le tex t1 (t2 || t3),
      and_or_le tex t2 t3,
      and_le tex own,
      or_le m1 (m2 || m3),
      or_le m2 m3,
    )

pub fallback_le : (i : ℕ) (tex : Bool) → most (expression_text i tex fallback) ≤ 24
unfolding expression_text op_text arg_text replicated source_text
fallback_le i tex = lit≤ tt

pub budget_low : (c : ℕ) → 100 ≤ budget c
budget_low c =
    cond_cases (three_operands c) _ _ (λ n. 100 ≤ n) (λ t. lit≤ tt)
    (λ t. cond_cases (eqb c dot_product3) 103 100 (λ n. 100 ≤ n) (λ t. lit≤ tt) (λ t. lit≤ tt))

module _ (i : ℕ) (tex : Bool) (c : Combiner) where
  abbrev pub texel_kept : Bool
  texel_kept = keeps texture tex c || reads_own_texel tex c.op

  abbrev pub chosen : Bool → Expression
  chosen back = cond back fallback (combined tex c)

  pub chosen_le : (back : Bool)
      → most (expression_text i tex (chosen back)) + credit tex (not back && texel_kept) (not back && keeps temp tex c) ≤ cond back 24 (budget c.op)
  unfolding flag
  chosen_le true = omega (arith, fallback_le i tex, and_le tex false)
  chosen_le false = combined_le i tex c

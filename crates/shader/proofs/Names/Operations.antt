-- The check of an operation's text, by one test over the codes: its template mentions the operands that 01's rule keeps, and its words use no more
-- than every line knows.
use Prim.Native.Nat.{ℕ, suc, ◌≤◌, ◌<◌}
use Prim.Native.String.{String}
use mathlib.Core.Path.{◌≡◌, refl, sym, subst}
use mathlib.Core.List.{List, [], ◌∷◌}
use mathlib.Core.Bool.{Bool, true, false, not, ◌&&◌, ◌||◌, beq, and-false}
use native.Mathlib.Omega.{arith}
use lib.Dec.{T, eqb, leb, leb→le, nleb→lt, lit<, eqb→eq}
use borrow.Author.Tests.{ne_eqb, lt-leb}
use Rattle.text.specs.Text.{Text, none, bytes}
use Rattle.text.specs.Format.{Piece, words, slot, cut, Slot, ◌≔◌, same, find, piece_text, fill}
use Rattle.text.proofs.Slots.{is_slot, mentions}
use Rattle.combiners.specs.Codes.{blend_factor_alpha}
use Rattle.combiners.specs.Arguments.{texel_name}
use Rattle.combiners.specs.Combiners.{op_codes, look, op_of, template, op_text, has_text, keeps_first, keeps_second, three_operands, reads_own_texel}
use Rattle.combiners.specs.declared.Op.{Op}
use Rattle.combiners.specs.declared.Op.TheVariants.{Other}
use Rattle.values.specs.Listed.{Name}
use Rattle.shader.specs.Names.{same_name, tokens, Occurrence, declaration, usage, row}
use Rattle.shader.proofs.Names.Truth.{and_fst, and_snd, inl, inr, either, other, cond_cases, below, below_at}
use Rattle.shader.proofs.Names.Scan.{scan}
use Rattle.shader.proofs.Names.Check.{Aim, Known, same→eq}
use Rattle.shader.proofs.Names.Frag.{Frag}
use Rattle.shader.proofs.Names.Words.{the, name_frag}
use Rattle.shader.proofs.Names.Templates.{Uses, Needs, NeedsPiece, fits, pieces_frag}
use Rattle.shader.proofs.Names.Arguments.{Base, texel, texel_word}

-- what the words of an operation may use: what every line knows, and for one of them row 0
abbrev common : Bool → Occurrence → Bool
common factor (declaration n) = false
common factor (usage n) = same_name n (the "in") || (same_name n (the "current") || same_name n (the "ps_c"))
common factor (row k) = factor && eqb k 0

abbrev all_common : Bool → List Occurrence → Bool
all_common factor [] = true
all_common factor (o ∷ l) = common factor o && all_common factor l

abbrev pub operands : Text → Text → Text → Text → List Slot
operands a b x z = ("a" ≔ a) ∷ ("b" ≔ b) ∷ ("t" ≔ x) ∷ ("z" ≔ z) ∷ []

abbrev is_one_of : List Slot → List ℕ → Bool
is_one_of [] v = false
is_one_of ((n ≔ t) ∷ f) v = same (bytes n) v || is_one_of f v

abbrev common_piece : Bool → Piece → Bool
common_piece factor (words w) = all_common factor (scan [] (tokens w))
common_piece factor (slot v) = is_one_of (operands none none none none) v

abbrev common_pieces : Bool → List Piece → Bool
common_pieces factor [] = true
common_pieces factor (p ∷ r) = common_piece factor p && common_pieces factor r

abbrev harmless : List Slot → ℕ → List Piece → Bool
harmless f c ps = fits ps (fill f ps) && common_pieces (eqb c blend_factor_alpha) ps

-- a test of every code: of those below 27, and of the others, which have no text
abbrev all_below : List (ℕ × Op) → Bool
all_below [] = true
all_below (e ∷ r) = leb (suc e.0) 27 && all_below r

far : (c k : ℕ) → 27 ≤ c → k < 27 → eqb c k ≡ false
far c k h l = ne_eqb c k (λ e. omega arith)

look_far : (r : List (ℕ × Op)) (c : ℕ) → T (all_below r) → 27 ≤ c → look r c ≡ Other
look_far [] c t h = refl
look_far (e ∷ r) c t h =
    rw (far c e.0 h (leb→le (suc e.0) 27 (and_fst (leb (suc e.0) 27) _ t))) (look_far r c (and_snd (leb (suc e.0) 27) _ t) h)

pub every_code : (q : ℕ → Op → Bool) → T (below 27 (λ c. q c (op_of c))) → ((c : ℕ) → 27 ≤ c → T (q c Other)) → (c : ℕ) → T (q c (op_of c))
every_code q t d c = go (leb 27 c) (leb→le 27 c) (nleb→lt 27 c)
  where
    go : (b : Bool) → (T b → 27 ≤ c) → (T (not b) → c < 27) → T (q c (op_of c))
    go true h l = rw (look_far op_codes c tt (h tt)) (d c (h tt))
    go false h l = below_at (λ c. q c (op_of c)) 27 c t (l tt)

-- The template of a code mentions the arguments that the code keeps, argument 0 where it has one, and the stage's texel where it reads that.
abbrev mentions_kept : Bool → ℕ → List Piece → Bool
mentions_kept tex c ps =
    beq (mentions "a" ps) (keeps_first tex c)
    && (beq (mentions "b" ps) (keeps_second tex c)
    && (beq (mentions "t" ps) (reads_own_texel tex c) && beq (mentions "z" ps) (three_operands c)))

far_kept : (tex : Bool) (c : ℕ) → 27 ≤ c → T (mentions_kept tex c (cut (template Other tex)))
far_kept tex c h =
    let a : keeps_first tex c ≡ true = rw (far c 3 h (lit< tt), far c 13 h (lit< tt)) in
    let no_text : has_text c ≡ false =
    rw (
      lt-leb c 16 (omega arith),
      lt-leb c 21 (omega arith),
      lt-leb c 26 (omega arith),
      and-false (leb 2 c),
      and-false (leb 18 c),
      and-false (leb 24 c),
    ) in
    let t : reads_own_texel tex c ≡ false = rw (far c 13 h (lit< tt), far c 15 h (lit< tt), and-false tex) in
    let z : three_operands c ≡ false = rw (far c 25 h (lit< tt), far c 26 h (lit< tt)) in
    rw (a, no_text, t, z) tt

every_kept : (tex : Bool) (c : ℕ) → T (mentions_kept tex c (cut (template (op_of c) tex)))
every_kept true = every_code (λ c o. mentions_kept true c (cut (template o true))) tt (far_kept true)
every_kept false = every_code (λ c o. mentions_kept false c (cut (template o false))) tt (far_kept false)

beq→eq : (a b : Bool) → T (beq a b) → a ≡ b
beq→eq true true t = refl
beq→eq true false t = absurd t
beq→eq false true t = absurd t
beq→eq false false t = refl

pub record MentionsKept (tex : Bool) (c : ℕ) : Type 0 where
  pub first : mentions "a" (cut (template (op_of c) tex)) ≡ keeps_first tex c
  pub second : mentions "b" (cut (template (op_of c) tex)) ≡ keeps_second tex c
  pub texture : mentions "t" (cut (template (op_of c) tex)) ≡ reads_own_texel tex c
  pub third : mentions "z" (cut (template (op_of c) tex)) ≡ three_operands c

pub mentions_kept_lem : (tex : Bool) (c : ℕ) → MentionsKept tex c
mentions_kept_lem tex c =
    let ps = cut (template (op_of c) tex) in
    let m = every_kept tex c in
    let n = and_snd (beq (mentions "a" ps) (keeps_first tex c)) _ m in
    let o = and_snd (beq (mentions "b" ps) (keeps_second tex c)) _ n in
    record {
      first = beq→eq _ _ (and_fst (beq (mentions "a" ps) (keeps_first tex c)) _ m);
      second = beq→eq _ _ (and_fst (beq (mentions "b" ps) (keeps_second tex c)) _ n);
      texture = beq→eq _ _ (and_fst (beq (mentions "t" ps) (reads_own_texel tex c)) _ o);
      third = beq→eq _ _ (and_snd (beq (mentions "t" ps) (reads_own_texel tex c)) _ o);
    }

code_harmless : (tex : Bool) (f : List Slot) (c : ℕ) → T (harmless f c (cut (template (op_of c) tex)))
code_harmless true f = every_code (λ c o. harmless f c (cut (template o true))) tt (λ c h. tt)
code_harmless false f = every_code (λ c o. harmless f c (cut (template o false))) tt (λ c h. tt)

module _ (A : Aim) {K : Known} (base : Base K) (factor : Bool) (top : T factor → 0 < A.rows) where
  uses_of : (l : List Occurrence) {X : Type 0} → T (all_common factor l) → X → Uses A K l X
  uses_of [] t x = x
  uses_of (declaration n ∷ l) t x = absurd t
  uses_of (usage n ∷ l) t x = (known (and_fst (common factor (usage n)) _ t), uses_of l (and_snd (common factor (usage n)) _ t) x)
    where
      is : (s : String) → T (K.has (the s)) → T (same_name n (the s)) → T (K.has n)
      is s h e = subst (λ (m : Name). T (K.has m)) (sym (same→eq n (the s) e)) h

      known : T (common factor (usage n)) → T (K.has n)
      known =
          either (same_name n (the "in")) _ (is "in" base.is_in)
          (either (same_name n (the "current")) _ (is "current" base.is_current) (is "ps_c" base.is_table))
  uses_of (row k ∷ l) t x = (first (and_fst (factor && eqb k 0) _ t), uses_of l (and_snd (factor && eqb k 0) _ t) x)
    where
      first : T (factor && eqb k 0) → k < A.rows
      first e = subst (λ (m : ℕ). m < A.rows) (sym (eqb→eq k 0 (and_snd factor _ e))) (top (and_fst factor _ e))

  -- each slot that is mentioned has a text that the check passes
  abbrev Filled : List Slot → (String → Bool) → Type 0
  Filled [] mentioned = Unit {0}
  Filled ((n ≔ t) ∷ f) mentioned = (T (mentioned n) → Frag A K t) × Filled f mentioned

  in_head : (f : List Slot) (p : Piece) (ps : List Piece) → Filled f (λ n. mentions n (p ∷ ps)) → Filled f (λ n. is_slot n p)
  in_head [] p ps g = tt
  in_head ((n ≔ t) ∷ f) p ps g = ((λ e. g.0 (inl (is_slot n p) _ e)), in_head f p ps g.1)

  in_tail : (f : List Slot) (p : Piece) (ps : List Piece) → Filled f (λ n. mentions n (p ∷ ps)) → Filled f (λ n. mentions n ps)
  in_tail [] p ps g = tt
  in_tail ((n ≔ t) ∷ f) p ps g = ((λ e. g.0 (inr (is_slot n p) _ e)), in_tail f p ps g.1)

  find_frag : (f : List Slot) (v : List ℕ) → T (is_one_of f v) → Filled f (λ n. is_slot n (slot v)) → Frag A K (find f v)
  find_frag [] v t g = absurd t
  find_frag ((n ≔ x) ∷ f) v t g =
      cond_cases (same (bytes n) v) x (find f v) (Frag A K) g.0
      (λ e. find_frag f v (other (same (bytes n) v) _ t e) g.1)

  module _ (a b x z : Text) where
    abbrev slots : List Slot
    slots = operands a b x z

    piece_needs : (p : Piece) {X : Type 0} → T (common_piece factor p) → Filled slots (λ n. is_slot n p) → X → NeedsPiece A K p (piece_text slots p) X
    piece_needs (words w) t g y = uses_of (scan [] (tokens w)) t y
    piece_needs (slot v) t g y = (find_frag slots v t g, y)

    pieces_needs : (ps : List Piece) → T (common_pieces factor ps) → Filled slots (λ n. mentions n ps) → Needs A K ps (fill slots ps)
    pieces_needs [] t g = tt
    pieces_needs (p ∷ []) t g = piece_needs p (and_fst (common_piece factor p) _ t) (in_head slots p [] g) tt
    pieces_needs (p ∷ (q ∷ r)) t g =
        piece_needs p (and_fst (common_piece factor p) _ t) (in_head slots p (q ∷ r) g)
        (pieces_needs (q ∷ r) (and_snd (common_piece factor p) _ t) (in_tail slots p (q ∷ r) g))

-- the text of a code, with arguments a, b and z
pub op_frag : {A : Aim} {K : Known} → Base K → (i : ℕ) → i < 8 → (tex : Bool) (c : ℕ) (a b z : Text)
    → (T (keeps_first tex c) → Frag A K a) → (T (keeps_second tex c) → Frag A K b) → (T (three_operands c) → Frag A K z)
    → (T (reads_own_texel tex c) → T (K.has (texel i))) → (T (eqb c blend_factor_alpha) → 0 < A.rows)
    → Frag A K (op_text i tex (op_of c) a b z)
unfolding op_text
op_frag {A} {K} base i l tex c a b z first second third own top =
    let ps = cut (template (op_of c) tex) in
    let m = mentions_kept_lem tex c in
    let o = code_harmless tex (operands a b (texel_name i) z) c in
    pieces_frag A K ps _ (and_fst (fits ps _) _ o)
    (pieces_needs A base (eqb c blend_factor_alpha) top a b (texel_name i) z ps (and_snd (fits ps _) _ o) (
      (λ t. first (subst T m.first t)),
      (
        (λ t. second (subst T m.second t)),
        ((λ t. name_frag (texel_word i l) (own (subst T m.texture t))), ((λ t. third (subst T m.third t)), tt)),
      ),
    ))

-- A template filled with fragments is a fragment: one proof for all templates, over their pieces.
use Prim.Native.Nat.{ℕ, ◌<◌}
use Prim.Native.String.{String}
use mathlib.Core.Path.{◌≡◌, refl, ap, sym, ◌∙◌, subst}
use mathlib.Core.List.{List, [], ◌∷◌, ◌++◌}
use mathlib.Core.Bool.{Bool, true, false, not, ◌&&◌, ◌||◌}
use lib.Dec.{T, eqb, eqb→eq}
use Rattle.text.specs.Text.{Text, bytes, raw, ◌⊕◌, pick, flat}
use Rattle.text.specs.Format.{Piece, words, slot, cut, same}
use Rattle.values.specs.Listed.{Name}
use Rattle.shader.specs.Names.{Token, tokens, follows, declares, Occurrence, declaration, usage, row}
use Rattle.shader.proofs.Names.Truth.{and_fst, and_snd, inl, inr, either}
use Rattle.shader.proofs.Names.Scan.{scan, breaks, ended, after, settled, tokens_append, scan-append}
use Rattle.shader.proofs.Names.Check.{Aim, Known, Free, Holds, declaring}
use Rattle.shader.proofs.Names.Words.{Word}
use Rattle.shader.proofs.Names.Frag.{Has, has_more, Reads, literal, append, Frag, opens, opens-append, pick_frag}

abbrev pub is_empty : {X : Type 0} → List X → Bool
is_empty [] = true
is_empty (x ∷ l) = false

empty_eq : {X : Type 0} (l : List X) → T (is_empty l) → l ≡ []
empty_eq [] t = refl
empty_eq (x ∷ l) t = absurd t

-- what the occurrences l need, and what is needed behind them
abbrev pub Uses : Aim → Known → List Occurrence → Type 0 → Type 0
Uses A K [] X = X
Uses A K (declaration n ∷ l) X = ⊥
Uses A K (usage n ∷ l) X = T (K.has n) × Uses A K l X
Uses A K (row k ∷ l) X = (k < A.rows) × Uses A K l X

uses_holds : (A : Aim) (K K' : Known) (l l' : List Occurrence) (X : Type 0) → Has K K' → Uses A K l X → (X → Holds A K' l')
    → Holds A K' (l ++ l')
uses_holds A K K' [] l' X u h k = k h
uses_holds A K K' (declaration n ∷ l) l' X u h k = absurd h
uses_holds A K K' (usage n ∷ l) l' X u h k = (u n h.0, uses_holds A K K' l l' X u h.1 k)
uses_holds A K K' (row n ∷ l) l' X u h k = (h.0, uses_holds A K K' l l' X u h.1 k)

-- the two parts of a text that is joined of them
abbrev pub joins : Text → Bool
joins (raw x) = false
joins (s ⊕ t) = true
joins (pick b s t) = false

abbrev pub left : Text → Text
left (raw x) = raw x
left (s ⊕ t) = s
left (pick b s t) = pick b s t

abbrev pub right : Text → Text
right (raw x) = raw x
right (s ⊕ t) = t
right (pick b s t) = pick b s t

-- what a text made of a template's pieces needs, in the text's order: a fragment in each slot, and the names and rows of the words
abbrev pub NeedsPiece : Aim → Known → Piece → Text → Type 0 → Type 0
NeedsPiece A K (slot v) t X = Frag A K t × X
NeedsPiece A K (words w) t X = Uses A K (scan [] (tokens w)) X

abbrev pub Needs : Aim → Known → List Piece → Text → Type 0
Needs A K [] t = Unit {0}
Needs A K (p ∷ []) t = NeedsPiece A K p t (Unit {0})
Needs A K (p ∷ (q ∷ r)) t = NeedsPiece A K p (left t) (Needs A K (q ∷ r) (right t))

-- no name, no row and no type is cut in two behind the words
abbrev pub whole : List ℕ → Bool
whole w = settled (tokens w) && is_empty (after [] (tokens w))

abbrev pub fits_piece : Piece → Text → Bool
fits_piece (slot v) t = true
fits_piece (words w) t = same (flat t) w && whole w

abbrev pub ends_piece : Piece → Bool
ends_piece (slot v) = false
ends_piece (words w) = ended w

-- the text is made of these pieces, and no word goes on from one to the next
abbrev pub fits : List Piece → Text → Bool
fits [] t = false
fits (p ∷ []) t = fits_piece p t
fits (p ∷ (q ∷ r)) t = (joins t && (fits_piece p (left t) && (ends_piece p || opens (flat (right t))))) && fits (q ∷ r) (right t)

-- the last of them ends in a mark
abbrev pub ends_all : List Piece → Bool
ends_all [] = false
ends_all (p ∷ []) = ends_piece p
ends_all (p ∷ (q ∷ r)) = ends_all (q ∷ r)

pub same_bytes : (v w : List ℕ) → T (same v w) → v ≡ w
same_bytes [] [] t = refl
same_bytes [] (y ∷ w) t = absurd t
same_bytes (x ∷ v) [] t = absurd t
same_bytes (x ∷ v) (y ∷ w) t =
    let p : x ≡ y = eqb→eq x y (and_fst (eqb x y) _ t) in
    let q : v ≡ w = same_bytes v w (and_snd (eqb x y) _ t) in
    cc

-- no word goes on from a piece to the text behind it, whatever follows
pub seam : (p : Piece) (t : Text) (r : List ℕ) → T (ends_piece p || opens (flat t)) → T (ends_piece p || breaks (flat t ++ r))
seam p t r =
    either (ends_piece p) (opens (flat t)) (λ e. inl (ends_piece p) _ e) (λ o. inr (ends_piece p) _ (opens-append (flat t) r o))

module _ (A : Aim) (K K' : Known) (u : Has K K') where
  words_read : (w r : List ℕ) (X : Type 0) → T (whole w) → T (ended w || breaks r) → Uses A K (scan [] (tokens w)) X
      → (X → Holds A K' (scan [] (tokens r)))
      → Holds A K' (scan [] (tokens (w ++ r)))
  words_read w r X t s h k =
      let e : after [] (tokens w) ≡ [] = empty_eq _ (and_snd (settled (tokens w)) _ t) in
      let parts : scan [] (tokens (w ++ r)) ≡ scan [] (tokens w) ++ scan [] (tokens r) =
      ap (scan []) (tokens_append w r s)
      ∙ scan-append (tokens w) (tokens r) [] (and_fst (settled (tokens w)) _ t)
      ∙ ap (λ (b : List Token). scan [] (tokens w) ++ scan b (tokens r)) e in
      subst (Holds A K') (sym parts) (uses_holds A K K' (scan [] (tokens w)) (scan [] (tokens r)) X u h k)

  piece_read : (p : Piece) (t : Text) (r : List ℕ) (X : Type 0) → T (fits_piece p t) → T (ends_piece p || breaks r) → NeedsPiece A K p t X
      → (X → Holds A K' (scan [] (tokens r)))
      → Holds A K' (scan [] (tokens (flat t ++ r)))
  piece_read (slot v) t r X f s n k = n.0.reads K' u r s (k n.1)
  piece_read (words w) t r X f s n k =
      rw (same_bytes (flat t) w (and_fst (same (flat t) w) _ f)) (words_read w r X (and_snd (same (flat t) w) _ f) s n k)

  pieces_read : (ps : List Piece) (t : Text) → T (fits ps t) → Needs A K ps t → (r : List ℕ) → T (ends_all ps || breaks r)
      → Holds A K' (scan [] (tokens r)) → Holds A K' (scan [] (tokens (flat t ++ r)))
  pieces_read [] t f n r c k = absurd f
  pieces_read (p ∷ []) t f n r c k = piece_read p t r (Unit {0}) f c n (λ x. k)
  pieces_read (p ∷ (q ∷ ps)) (raw x) f n r c k = absurd f
  pieces_read (p ∷ (q ∷ ps)) (pick b s t) f n r c k = absurd f
  pieces_read (p ∷ (q ∷ ps)) (s ⊕ t) f n r c k =
      let here = and_fst (fits_piece p s && (ends_piece p || opens (flat t))) (fits (q ∷ ps) t) f in
      append A K' [] (flat s) (flat t) r
      (piece_read p s (flat t ++ r) (Needs A K (q ∷ ps) t) (and_fst (fits_piece p s) _ here)
      (seam p t r (and_snd (fits_piece p s) _ here)) n
      (λ m. pieces_read (q ∷ ps) t (and_snd (fits_piece p s && (ends_piece p || opens (flat t))) (fits (q ∷ ps) t) f) m r c k))

pub pieces_frag : (A : Aim) (K : Known) (ps : List Piece) (t : Text) → T (fits ps t) → Needs A K ps t → Frag A K t
pieces_frag A K ps t f n = record { reads = λ K' u r s k. pieces_read A K K' u ps t f n r (inr (ends_all ps) _ s) k }

-- a text made by a template
pub format_frag : {A : Aim} {K : Known} {t : Text} (s : String) → T (fits (cut s) t) → Needs A K (cut s) t → Frag A K t
format_frag {A} {K} {t} s f n = pieces_frag A K (cut s) t f n

-- one that ends in a mark
pub format_reads : {A : Aim} {K : Known} (s : String) (t : Text) → T (fits (cut s) t && ends_all (cut s)) → Needs A K (cut s) t
    → Reads A K [] (flat t) K []
format_reads {A} {K} s t f n =
    literal (λ r k. pieces_read A K K (λ n h. h) (cut s) t (and_fst (fits (cut s) t) _ f) n r
    (inl (ends_all (cut s)) _ (and_snd (fits (cut s) t) _ f)) k)

-- a literal text
pub text_frag : {A : Aim} {K : Known} {w : List ℕ} → T (whole w) → Uses A K (scan [] (tokens w)) (Unit {0}) → Frag A K (raw w)
text_frag {A} {K} {w} t n = record { reads = λ K' u r s k. words_read A K K' u w r (Unit {0}) t (inr (ended w) _ s) n (λ x. k) }

-- a literal text in which nothing is found, and one of two such
abbrev pub silent : List ℕ → Bool
silent w = whole w && is_empty (scan [] (tokens w))

silent_frag : {A : Aim} {K : Known} (w : List ℕ) → T (silent w) → Frag A K (raw w)
silent_frag w t = text_frag (and_fst (whole w) _ t) (rw (empty_eq (scan [] (tokens w)) (and_snd (whole w) _ t)) tt)

pub either_frag : {A : Aim} {K : Known} {b : Bool} {v w : List ℕ} → T (silent v && silent w) → Frag A K (pick b (raw v) (raw w))
either_frag {v = v} {w = w} t = pick_frag (λ s. silent_frag v (and_fst (silent v) _ t)) (λ s. silent_frag w (and_snd (silent v) _ t))

-- words that say nothing and end in what declares the name behind them
abbrev pub introduces : List ℕ → Bool
introduces w =
    (declares (after [] (tokens w)) && not (follows (bytes ".") (after [] (tokens w))))
    && (ended w && (settled (tokens w) && is_empty (scan [] (tokens w))))

pub declared_read : {A : Aim} {K K' : Known} {b : List Token} {n : Name} (w : List ℕ) {x y : List ℕ} → T (introduces w) → Word x n
    → Free A K n → T (opens y)
    → Reads A (declaring A n K) [] y K' b → Reads A K [] (w ++ (x ++ y)) K' b
declared_read {A} {K} {n = n} w {x} {y} t W p o h =
    literal λ r k. append A K [] w (x ++ y) r
    (subst (Holds A K) (sym (words_scan ((x ++ y) ++ r)))
    (append A K context x y r
    (subst (Holds A K) (sym (W.bound context declaring_here (y ++ r) (opens-append y r o))) (p, h.on r k))))
  where
    context : List Token
    context = after [] (tokens w)

    declaring_here : T (declares context && not (follows (bytes ".") context))
    declaring_here = and_fst (declares context && not (follows (bytes ".") context)) _ t

    front : T (ended w && (settled (tokens w) && is_empty (scan [] (tokens w))))
    front = and_snd (declares context && not (follows (bytes ".") context)) _ t

    words_scan : (r : List ℕ) → scan [] (tokens (w ++ r)) ≡ scan context (tokens r)
    words_scan r =
        let e : scan [] (tokens w) ≡ [] = empty_eq _ (and_snd (settled (tokens w)) _ (and_snd (ended w) _ front)) in
        ap (scan []) (tokens_append w r (inl (ended w) _ (and_fst (ended w) _ front)))
        ∙ scan-append (tokens w) (tokens r) [] (and_fst (settled (tokens w)) _ (and_snd (ended w) _ front))
        ∙ ap (λ (os : List Occurrence). os ++ scan context (tokens r)) e

-- a line whose template declares what stands in its first slot
abbrev pub first_words : List Piece → List ℕ
first_words [] = []
first_words (words w ∷ r) = w
first_words (slot v ∷ r) = []

abbrev pub behind_name : List Piece → List Piece
behind_name [] = []
behind_name (p ∷ []) = []
behind_name (p ∷ (q ∷ r)) = r

abbrev pub fits_line : List Piece → Text → Bool
fits_line ps t =
    (joins t && (joins (right t) && same (flat (left t)) (first_words ps))) && (introduces (first_words ps)
    && (opens (flat (right (right t))) && (fits (behind_name ps) (right (right t)) && ends_all (behind_name ps))))

pub line_reads : {A : Aim} {K : Known} {n : Name} (s : String) (t : Text) → T (fits_line (cut s) t) → Word (flat (left (right t))) n
    → Free A K n
    → Needs A K (behind_name (cut s)) (right (right t)) → Reads A K [] (flat t) (declaring A n K) []
line_reads s (raw x) f W p m = absurd f
line_reads s (pick b t u) f W p m = absurd f
line_reads s (t ⊕ raw x) f W p m = absurd f
line_reads s (t ⊕ pick b u v) f W p m = absurd f
line_reads {A} {K} {n} s (t ⊕ (x ⊕ y)) f W p m =
    let front = first_words (cut s) in
    let behind = behind_name (cut s) in
    let f₁ = and_snd (same (flat t) front) _ f in
    let f₂ = and_snd (introduces front) _ f₁ in
    let f₃ = and_snd (opens (flat y)) _ f₂ in
    rw (same_bytes (flat t) front (and_fst (same (flat t) front) _ f))
    (declared_read front (and_fst (introduces front) _ f₁) W p (and_fst (opens (flat y)) _ f₂)
    (literal λ r k. pieces_read A K (declaring A n K) (has_more A n K) behind y (and_fst (fits behind y) _ f₃) m r
    (inl (ends_all behind) _ (and_snd (fits behind y) _ f₃)) k))

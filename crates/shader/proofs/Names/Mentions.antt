-- How a use in a part of a text is found in the whole, whatever stands around it: words, texts made by templates, lines.
use Prim.Native.Nat.{ℕ}
use Prim.Native.Char.{code}
use Prim.Native.String.{String}
use mathlib.Core.Path.{sym, subst}
use mathlib.Core.List.{List, [], ◌∷◌, ◌++◌, append_assoc}
use mathlib.Core.Bool.{Bool, true, false, not, ◌&&◌, ◌||◌, cond}
use lib.Dec.{T, eqb, eqb→eq, T_not}
use Rattle.text.specs.Text.{Text, raw, ◌⊕◌, pick, flat}
use Rattle.text.specs.Format.{Piece, words, slot, cut, same}
use Rattle.text.proofs.Slots.{is_slot}
use Rattle.values.specs.Listed.{Name}
use Rattle.shader.specs.Names.{Token, word, mark, tokens, found_at}
use Rattle.shader.specs.Idle.{used}
use Rattle.shader.proofs.Names.Truth.{and_fst, and_snd, inl, inr, either, implied, cond_cases}
use Rattle.shader.proofs.Names.Scan.{scan, breaks, ended, after, kept, matters, tokens_append}
use Rattle.shader.proofs.Names.Words.{plain, Word}
use Rattle.shader.proofs.Names.Frag.{opens, opens-append}
use Rattle.shader.proofs.Names.Templates.{joins, left, right, ends_piece, same_bytes, seam}
use Rattle.shader.proofs.Names.Idle.{used_first, used_right}

-- behind tokens of any kind
used_skip : (n : Name) (ts us b : List Token) → T (used n (scan (after b ts) us)) → T (used n (scan b (ts ++ us)))
used_skip n [] us b h = h
used_skip n (mark c ∷ ts) us b h = used_skip n ts us (kept (mark c ∷ b)) h
used_skip n (word w ∷ ts) us b h = used_right n (found_at b w (ts ++ us)) _ (used_skip n ts us (kept (word w ∷ b)) h)

skip : (n : Name) (b : List Token) (x r : List ℕ) → T (ended x || breaks r) → T (used n (scan (after b (tokens x)) (tokens r)))
    → T (used n (scan b (tokens (x ++ r))))
skip n b x r s h = rw (tokens_append x r s) (used_skip n (tokens x) (tokens r) b h)

-- a text that uses n, wherever it stands
pub record Mentions (n : Name) (x : List ℕ) : Type 0 where
  pub on : (y r : List ℕ) → T (used n (scan [] (tokens (y ++ (x ++ r)))))

pub mentions_left : {n : Name} {x : List ℕ} (z : List ℕ) → Mentions n x → Mentions n (x ++ z)
mentions_left {n} {x} z m = record { on = λ y r. rw (append_assoc x z r) (m.on y (z ++ r)) }

pub mentions_right : {n : Name} {x : List ℕ} (z : List ℕ) → Mentions n x → Mentions n (z ++ x)
mentions_right {n} {x} z m =
    record {
      on =
          λ y r. rw (append_assoc z x r)
          (subst (λ (u : List ℕ). T (used n (scan [] (tokens u)))) (append_assoc y z (x ++ r)) (m.on (y ++ z) r));
    }

-- what x uses is named
abbrev pub Inside : (Name → Bool) → List ℕ → Type 0
Inside named x = (n : Name) → Mentions n x → T (named n)

-- a fragment that uses n, behind what is plain
pub record Finds (n : Name) (t : Text) : Type 0 where
  pub on : (b : List Token) → T (plain b) → (r : List ℕ) → T (breaks r) → T (used n (scan b (tokens (flat t ++ r))))

pub name_finds : {n : Name} {t : Text} → Word (flat t) n → Finds n t
name_finds {n} W = record { on = λ b p r s. rw (W.used b p r s) (used_first n (scan [] (tokens r))) }

pub pick_finds : {n : Name} {b : Bool} {s t : Text} → (T b → Finds n s) → (T (not b) → Finds n t) → Finds n (pick b s t)
pick_finds {b = true} f g = record { on = (f tt).on }
pick_finds {b = false} f g = record { on = (g tt).on }

-- Tokens behind which all is plain, whatever stands before them: they end in an opening bracket, or in an operator and a space.
abbrev opening : Token → Bool
opening (mark c) = eqb c (code "(")
opening (word w) = false

abbrev operator : ℕ → Bool
operator c = eqb c (code "*") || (eqb c (code "+") || (eqb c (code ",") || (eqb c (code "-") || eqb c (code "="))))

abbrev spaced : Token → Token → Bool
spaced (mark c) (mark d) = operator c && eqb d (code " ")
spaced (mark c) (word w) = false
spaced (word w) u = false

abbrev clear : List Token → Bool
clear [] = false
clear (t ∷ []) = opening t
clear (t ∷ (u ∷ [])) = opening u || spaced t u
clear (t ∷ (u ∷ (v ∷ r))) = clear (u ∷ (v ∷ r))

opening_plain : (t : Token) → T (opening t) → (b : List Token) → T (plain (kept (t ∷ b)))
opening_plain (mark c) h b = subst (λ (x : ℕ). T (plain (kept (mark x ∷ b)))) (sym (eqb→eq c (code "(") h)) tt
opening_plain (word w) h b = absurd h

module _ (b : List Token) where
  abbrev Plain : ℕ → Type 0
  Plain c = T (plain (kept (mark (code " ") ∷ kept (mark c ∷ b))))

  -- a star may end what declares a pointer, but a star and a space do not
  star_plain : Plain (code "*")
  star_plain = cond_cases (matters (mark (code "*") ∷ b)) _ _ (λ y. T (plain (kept (mark (code " ") ∷ y)))) (λ t. tt) (λ t. tt)

  operator_plain : (c : ℕ) → T (operator c) → Plain c
  operator_plain c =
      either (eqb c (code "*")) _ (is (code "*") star_plain)
      (either (eqb c (code "+")) _ (is (code "+") tt)
      (either (eqb c (code ",")) _ (is (code ",") tt) (either (eqb c (code "-")) _ (is (code "-") tt) (is (code "=") tt))))
    where
      is : (x : ℕ) → Plain x → T (eqb c x) → Plain c
      is x p t = subst Plain (sym (eqb→eq c x t)) p

spaced_plain : (t u : Token) → T (spaced t u) → (b : List Token) → T (plain (kept (u ∷ kept (t ∷ b))))
spaced_plain (word w) u h b = absurd h
spaced_plain (mark c) (word w) h b = absurd h
spaced_plain (mark c) (mark d) h b =
    subst (λ (x : ℕ). T (plain (kept (mark x ∷ kept (mark c ∷ b))))) (sym (eqb→eq d (code " ") (and_snd (operator c) _ h)))
    (operator_plain b c (and_fst (operator c) _ h))

clear_plain : (ts : List Token) → T (clear ts) → (b : List Token) → T (plain (after b ts))
clear_plain [] h b = absurd h
clear_plain (t ∷ []) h b = opening_plain t h b
clear_plain (t ∷ (u ∷ [])) h b =
    either (opening u) (spaced t u) (λ x. opening_plain u x (kept (t ∷ b))) (λ x. spaced_plain t u x b) h
clear_plain (t ∷ (u ∷ (v ∷ r))) h b = clear_plain (u ∷ (v ∷ r)) h (kept (t ∷ b))

-- A text made of a template's pieces, up to the slot v: what fills that slot is read as a fragment is, whatever fills the others.
abbrev made_of : Piece → Text → Bool
made_of (slot w) t = true
made_of (words w) t = same (flat t) w

abbrev clear_piece : Piece → Bool
clear_piece (slot w) = false
clear_piece (words w) = clear (tokens w)

abbrev headed : String → List Piece → Bool
headed v [] = false
headed v (p ∷ r) = is_slot v p

-- the text s of the piece p is passed over, to the pieces ps and their text t
abbrev passes : String → Piece → List Piece → Text → Text → Bool
passes v p ps s t = (made_of p s && (ends_piece p || opens (flat t))) && (not (headed v ps) || clear_piece p)

abbrev pub shaped : String → List Piece → Text → Bool
shaped v [] t = false
shaped v (p ∷ []) t = is_slot v p
shaped v (p ∷ (q ∷ r)) t =
    joins t && cond (is_slot v p) (opens (flat (right t))) (passes v p (q ∷ r) (left t) (right t) && shaped v (q ∷ r) (right t))

-- what fills the slot
abbrev pub filling : String → List Piece → Text → Text
filling v [] t = t
filling v (p ∷ []) t = t
filling v (p ∷ (q ∷ r)) t = cond (is_slot v p) (left t) (filling v (q ∷ r) (right t))

-- the slot is not the last piece
abbrev inner : String → List Piece → Bool
inner v [] = false
inner v (p ∷ []) = false
inner v (p ∷ (q ∷ r)) = is_slot v p || inner v (q ∷ r)

piece_ended : (p : Piece) (t : Text) → T (made_of p t) → T (ends_piece p) → T (ended (flat t))
piece_ended (slot v) t m e = absurd e
piece_ended (words w) t m e = rw (same_bytes (flat t) w m) e

piece_plain : (p : Piece) (t : Text) → T (made_of p t) → T (clear_piece p) → (b : List Token) → T (plain (after b (tokens (flat t))))
piece_plain (slot v) t m c b = absurd c
piece_plain (words w) t m c b = rw (same_bytes (flat t) w m) (clear_plain (tokens w) c b)

-- the text t of the pieces ps uses n
abbrev Found : Name → String → List Piece → Text → Type 0
Found n v ps t =
    (b : List Token) → (T (headed v ps) → T (plain b)) → (r : List ℕ) → T (inner v ps || breaks r) → T (used n (scan b (tokens (flat t ++ r))))

-- one piece more in front
module _ (n : Name) (v : String) (p q : Piece) (ps : List Piece) (s t : Text) where
  found_more : (h : Bool) → T (cond h (opens (flat t)) (passes v p (q ∷ ps) s t && shaped v (q ∷ ps) t))
      → Finds n (cond h s (filling v (q ∷ ps) t)) → (T (shaped v (q ∷ ps) t) → Finds n (filling v (q ∷ ps) t) → Found n v (q ∷ ps) t)
      → (b : List Token) → (T h → T (plain b)) → (r : List ℕ) → T ((h || inner v (q ∷ ps)) || breaks r)
      → T (used n (scan b (tokens ((flat s ++ flat t) ++ r))))
  found_more true f a ih b c r e = rw (append_assoc (flat s) (flat t) r) (a.on b (c tt) (flat t ++ r) (opens-append (flat t) r f))
  found_more false f a ih b c r e =
      let over = and_fst (passes v p (q ∷ ps) s t) _ f in
      let here = and_fst (made_of p s && (ends_piece p || opens (flat t))) _ over in
      let made = and_fst (made_of p s) _ here in
      let cut_here : T (ended (flat s) || breaks (flat t ++ r)) =
      either (ends_piece p) _ (λ x. inl (ended (flat s)) _ (piece_ended p s made x)) (λ x. inr (ended (flat s)) _ x)
      (seam p t r (and_snd (made_of p s) _ here)) in
      let calm : T (headed v (q ∷ ps)) → T (clear_piece p) =
      implied (headed v (q ∷ ps)) (clear_piece p) (and_snd (made_of p s && (ends_piece p || opens (flat t))) _ over) in
      rw (append_assoc (flat s) (flat t) r)
      (skip n b (flat s) (flat t ++ r) cut_here
      (ih (and_snd (passes v p (q ∷ ps) s t) _ f) a (after b (tokens (flat s))) (λ z. piece_plain p s made (calm z) b) r e))

found : (n : Name) (v : String) (ps : List Piece) (t : Text) → T (shaped v ps t) → Finds n (filling v ps t) → Found n v ps t
found n v [] t f a b c r e = absurd f
found n v (p ∷ []) t f a b c r e = a.on b (c f) r e
found n v (p ∷ (q ∷ ps)) (raw x) f a b c r e = absurd f
found n v (p ∷ (q ∷ ps)) (pick d s t) f a b c r e = absurd f
found n v (p ∷ (q ∷ ps)) (s ⊕ t) f a b c r e = found_more n v p q ps s t (is_slot v p) f a (found n v (q ∷ ps) t) b c r e

pub pieces_finds : {n : Name} {t : Text} (v : String) (ps : List Piece) → T (shaped v ps t) → Finds n (filling v ps t) → Finds n t
pieces_finds {n} {t} v ps f a = record { on = λ b p r s. found n v ps t f a b (λ z. p) r (inr (inner v ps) _ s) }

-- a text made by a template: what stands in the slot v uses n
pub format_finds : {n : Name} {t : Text} (s v : String) → T (shaped v (cut s) t) → Finds n (filling v (cut s) t) → Finds n t
format_finds s v f a = pieces_finds v (cut s) f a

-- a line made by a template, with words before the slot and behind it
abbrev in_line : String → List Piece → Text → Bool
in_line v ps t = (opens (flat t) && not (headed v ps)) && (inner v ps && shaped v ps t)

pub line_mentions : {n : Name} (s v : String) (t : Text) → T (in_line v (cut s) t) → Finds n (filling v (cut s) t) → Mentions n (flat t)
line_mentions {n} s v t f a =
    let front = and_fst (opens (flat t) && not (headed v (cut s))) _ f in
    let rest = and_snd (opens (flat t) && not (headed v (cut s))) _ f in
    record {
      on =
          λ y r. skip n [] y (flat t ++ r) (inr (ended y) _ (opens-append (flat t) r (and_fst (opens (flat t)) _ front)))
          (found n v (cut s) t (and_snd (inner v (cut s)) _ rest) a (after [] (tokens y))
          (λ z. absurd (T_not (headed v (cut s)) (and_snd (opens (flat t)) _ front) z)) r
          (inl (inner v (cut s)) _ (and_fst (inner v (cut s)) _ rest)));
    }

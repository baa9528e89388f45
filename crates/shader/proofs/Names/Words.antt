-- Words: a listed name as a use and as a declaration, a number, a field behind a full stop.
use Prim.Native.Nat.{ℕ, zero, suc, ◌+◌, ◌/◌, ◌%◌, ◌<◌}
use Prim.Native.String.{String}
use mathlib.Core.Path.{◌≡◌, refl, ap, sym, ◌∙◌, subst}
use mathlib.Core.List.{List, [], ◌∷◌, ◌++◌}
use mathlib.Core.Bool.{Bool, true, false, not, ◌&&◌, cond, and-false}
use mathlib.Core.Option.{Option, none, some}
use native.Mathlib.Omega.{arith}
use lib.Dec.{T, ltb, ltb→lt}
use Rattle.text.specs.Text.{Text, raw, bytes, flat, decimal_of}
use Rattle.text.specs.Format.{same}
use Rattle.values.specs.Entries.{is_digit, continues_name}
use Rattle.values.specs.Listed.{Name, name, listed}
use Rattle.shader.specs.Names.{same_name, Token, word, mark, tokens, follows, starts_digit, declares, Occurrence, declaration, usage, row, number_from, row_of}
use Rattle.shader.proofs.Names.Truth.{true_of, false_of, and_fst, and_snd, both, inr, below, below_at, cond_cases}
use Rattle.shader.proofs.Names.Scan.{scan, breaks, letters, matters, ended, tokens_append, tokens_letters}
use Rattle.shader.proofs.Names.Check.{Aim, Known, Holds, same→eq}
use Rattle.shader.proofs.Names.Frag.{Frag}

-- a word, where it ends
word_tokens : (c : ℕ) (w r : List ℕ) → T (letters (c ∷ w)) → T (breaks r) → tokens ((c ∷ w) ++ r) ≡ word (c ∷ w) ∷ tokens r
word_tokens c w r t s = tokens_append (c ∷ w) r (inr (ended (c ∷ w)) _ s) ∙ rw (tokens_letters c w t)

-- the word w is the listed name n, and no type
abbrev names : Name → Option Name → Bool
names n none = false
names n (some m) = same_name n m

names→eq : (n : Name) (o : Option Name) → T (names n o) → o ≡ some n
names→eq n none t = absurd t
names→eq n (some m) t = ap some (sym (same→eq n m t))

abbrev pub is_word_of : List Token → Name → List ℕ → Bool
is_word_of b n w = (letters w && not (starts_digit w)) && (names n (listed w) && (not (same (bytes "ps_c") w) && not (matters (word w ∷ b))))

-- what stands before a word declares nothing and is no full stop
abbrev pub plain : List Token → Bool
plain b = not (declares b) && not (follows (bytes ".") b)

-- how the word is read behind what is plain, and behind what declares it
pub record Word (w : List ℕ) (n : Name) : Type 0 where
  pub used : (b : List Token) → T (plain b) → (r : List ℕ) → T (breaks r) → scan b (tokens (w ++ r)) ≡ usage n ∷ scan [] (tokens r)
  pub bound : (b : List Token) → T (declares b && not (follows (bytes ".") b)) → (r : List ℕ) → T (breaks r)
      → scan b (tokens (w ++ r)) ≡ declaration n ∷ scan [] (tokens r)

module _ (b : List Token) (n : Name) (w : List ℕ) (t : T (is_word_of b n w)) (u : T (not (follows (bytes ".") b))) where
  facts : T (names n (listed w) && (not (same (bytes "ps_c") w) && not (matters (word w ∷ b))))
  facts = and_snd (letters w && not (starts_digit w)) _ t

  word_scan : (ts : List Token) → scan b (word w ∷ ts) ≡ cond (declares b) (declaration n) (usage n) ∷ scan [] ts
  word_scan ts =
      let e₁ : starts_digit w ≡ false = false_of _ (and_snd (letters w) _ (and_fst (letters w && not (starts_digit w)) _ t)) in
      let e₂ : follows (bytes ".") b ≡ false = false_of _ u in
      let e₃ : listed w ≡ some n = names→eq n (listed w) (and_fst (names n (listed w)) _ facts) in
      let rest = and_snd (names n (listed w)) _ facts in
      let e₄ : same (bytes "ps_c") w ≡ false = false_of _ (and_fst (not (same (bytes "ps_c") w)) _ rest) in
      let e₅ : matters (word w ∷ b) ≡ false = false_of _ (and_snd (not (same (bytes "ps_c") w)) _ rest) in
      rw (e₁, e₂, e₃, e₄, e₅) (go (declares b))
    where
      go : (e : Bool) → cond e (declaration n ∷ []) (usage n ∷ []) ++ scan [] ts ≡ cond e (declaration n) (usage n) ∷ scan [] ts
      go true = refl
      go false = refl

pub word_of : (n : Name) (w : List ℕ) → ((b : List Token) → T (is_word_of b n w)) → Word w n
word_of n [] h = absurd (h [])
word_of n (c ∷ v) h =
    record {
      used =
          λ b p r s. ap (scan b) (word_tokens c v r spelt s) ∙ word_scan b n (c ∷ v) (h b) (and_snd (not (declares b)) _ p) (tokens r)
          ∙ rw (false_of (declares b) (and_fst (not (declares b)) _ p));
      bound =
          λ b d r s. ap (scan b) (word_tokens c v r spelt s) ∙ word_scan b n (c ∷ v) (h b) (and_snd (declares b) _ d) (tokens r)
          ∙ rw (true_of (declares b) (and_fst (declares b) _ d));
    }
  where
    spelt : T (letters (c ∷ v))
    spelt = and_fst (letters (c ∷ v)) _ (and_fst (letters (c ∷ v) && not (starts_digit (c ∷ v))) _ (h []))

-- a listed name without a number
abbrev pub the : String → Name
the s = elim (listed (bytes s)) [ some n ↦ n | none ↦ name 0 0 ]

-- a family of listed names: one test of the eight
pub family : (k : ℕ) (s : List ℕ) → ((b : List Token) → T (below 8 (λ i. is_word_of b (name k i) (s ++ ((48 + i) ∷ []))))) → (i : ℕ) → i < 8
    → Word (s ++ ((48 + i) ∷ [])) (name k i)
family k s h i l =
    word_of (name k i) (s ++ ((48 + i) ∷ [])) (λ b. below_at (λ j. is_word_of b (name k j) (s ++ ((48 + j) ∷ []))) 8 i (h b) l)

pub name_frag : {A : Aim} {K : Known} {t : Text} {n : Name} → Word (flat t) n → T (K.has n) → Frag A K t
name_frag {A} {n = n} W h = record { reads = λ K' u r s k. subst (Holds A K') (sym (W.used [] tt r s)) (u n h, k) }

-- a field: a word behind a full stop
abbrev pub is_field : List ℕ → Bool
is_field w = letters w && not (matters (word w ∷ mark 46 ∷ []))

pub field_frag : {A : Aim} {K : Known} (c : ℕ) (w : List ℕ) → T (is_field (c ∷ w)) → Frag A K (raw (46 ∷ (c ∷ w)))
field_frag {A} c w t = record { reads = λ K' u r s k. subst (Holds A K') (sym (passed r s)) k }
  where
    passed : (r : List ℕ) → T (breaks r) → scan (mark 46 ∷ []) (tokens ((c ∷ w) ++ r)) ≡ scan [] (tokens r)
    passed r s =
        let e : matters (word (c ∷ w) ∷ mark 46 ∷ []) ≡ false = false_of _ (and_snd (letters (c ∷ w)) _ t) in
        ap (scan (mark 46 ∷ [])) (word_tokens c w r (and_fst (letters (c ∷ w)) _ t) s) ∙ rw (e, and-false (not (starts_digit (c ∷ w))))

-- a digit
digit_inside : (d : ℕ) → d < 10 → T (continues_name (48 + d))
digit_inside d l = below_at (λ d. continues_name (48 + d)) 10 d tt l

digit_is : (d : ℕ) → d < 10 → is_digit (48 + d) ≡ true
digit_is d l = true_of _ (below_at (λ d. is_digit (48 + d)) 10 d tt l)

digit_idle : (d : ℕ) (w : List ℕ) → d < 10 → matters (word ((48 + d) ∷ w) ∷ []) ≡ false
digit_idle d w l = false_of _ (below_at (λ d. not (matters (word ((48 + d) ∷ w) ∷ []))) 10 d tt l)

-- a number, perhaps with letters behind it: a word that is no name
pub record Numeral (x : List ℕ) : Type 0 where
  pub first : ℕ
  pub others : List ℕ
  pub digit : first < 10
  pub spelt : T (letters others)
  pub is : x ≡ (48 + first) ∷ others

number_scan : (d : ℕ) (w : List ℕ) → d < 10 → T (letters w) → (r : List ℕ) → T (breaks r)
    → scan [] (tokens (((48 + d) ∷ w) ++ r)) ≡ scan [] (tokens r)
number_scan d w l t r s =
    ap (scan []) (word_tokens (48 + d) w r (both (continues_name (48 + d)) (letters w) (digit_inside d l) t) s)
    ∙ rw (digit_is d l, digit_idle d w l)

pub number_frag : {A : Aim} {K : Known} {t : Text} → Numeral (flat t) → Frag A K t
number_frag {A} N =
    record {
      reads =
          λ K' u r s k. rw N.is (subst (Holds A K') (sym (number_scan N.first N.others N.digit N.spelt r s)) k);
    }

-- a row of `ps_c`
pub row_scan : (d : ℕ) → d < 10 → (r : List ℕ)
    → scan [] (tokens (bytes "ps_c[" ++ ((48 + d) ∷ (93 ∷ r)))) ≡ usage (the "ps_c") ∷ row d ∷ scan [] (tokens r)
row_scan d l r =
    let e : tokens ((48 + d) ∷ (93 ∷ r)) ≡ word ((48 + d) ∷ []) ∷ tokens (93 ∷ r) =
    word_tokens (48 + d) [] (93 ∷ r) (both (continues_name (48 + d)) true (digit_inside d l) tt) tt in
    ap (λ (ts : List Token). scan [] (word (bytes "ps_c") ∷ mark 91 ∷ ts)) e
    ∙ ap (λ (n : Option ℕ). usage (the "ps_c") ∷ (row_of n ++ scan [] (word ((48 + d) ∷ []) ∷ tokens (93 ∷ r)))) numbered
    ∙ ap (λ (os : List Occurrence). usage (the "ps_c") ∷ row d ∷ os) (sym (ap (scan []) e) ∙ number_scan d [] l tt (93 ∷ r) tt)
  where
    numbered : number_from 0 ((48 + d) ∷ []) ≡ some d
    numbered = rw (digit_is d l) (ap some (omega arith))

pub one_digit : (d : ℕ) → d < 10 → Numeral ((48 + d) ∷ [])
one_digit d l = record { first = d; others = []; digit = l; spelt = tt; is = refl }

letters_more : (w : List ℕ) (c : ℕ) → T (letters w) → T (continues_name c) → T (letters (w ++ (c ∷ [])))
letters_more [] c s t = both (continues_name c) true t tt
letters_more (d ∷ w) c s t = both (continues_name d) _ (and_fst (continues_name d) _ s) (letters_more w c (and_snd (continues_name d) _ s) t)

pub numeral_more : (x : List ℕ) (c : ℕ) → T (continues_name c) → Numeral x → Numeral (x ++ (c ∷ []))
numeral_more x c t N =
    record {
      first =
          N.first;
      others = N.others ++ (c ∷ []);
      digit = N.digit;
      spelt = letters_more N.others c N.spelt t;
      is = rw N.is;
    }

-- a number in decimal
decimal_more : (n k d : ℕ) → d < 10 → Numeral (flat (decimal_of n k) ++ ((48 + d) ∷ []))
unfolding decimal_of
decimal_more zero k d l = one_digit d l
decimal_more (suc n) k d l =
    numeral_more _ (48 + d) (digit_inside d l)
    (cond_cases (ltb k 10) _ _ Numeral (λ t. one_digit k (ltb→lt k 10 t)) (λ t. decimal_more n (k / 10) (k % 10) (omega arith)))

pub decimal_numeral : (n k : ℕ) → Numeral (flat (decimal_of (suc n) k))
unfolding decimal_of
decimal_numeral n k =
    cond_cases (ltb k 10) _ _ Numeral (λ t. one_digit k (ltb→lt k 10 t)) (λ t. decimal_more n (k / 10) (k % 10) (omega arith))

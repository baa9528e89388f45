-- The patterns that the code tests, by length, are the reserved words (`by_length`).
use Rattle.std.proofs.Common.{◌≡◌, ℕ, suc, ◌+◌, ◌-◌, ◌*◌, ◌<◌, Bool, true, false, cond, ◌&&◌, ◌||◌, eqb, ltb, leb, List, [], ◌∷◌, ◌++◌}
use Rattle.std.proofs.Common.{length, sym, refl, ap, ◌∙◌, arith, ltb-true, take_all, ne_eqb, eqb-true}
use Prim.Native.Char.{code}
use Prim.Native.String.{String}
use mathlib.Core.Option.{Option, none, some}
use borrow.Author.Tests.{eqb-false}
use Rattle.text.specs.Text.{bytes}
use Rattle.text.specs.Format.{same}
use Rattle.values.specs.Listed.{singles, families, Name, name, stage_in, in_families, in_list}
use Rattle.values.specs.Words.{others, one_of, is_listed, reserved_word, entry_reserved}
use Rattle.values.specs.declared.Entry.{Entry}
use Rattle.std.specs.List.{list_any}
use Rattle.admission.specs.Patterns.{fits, fits_byte}

-- a word fits one of some patterns
abbrev fits_any : List (List ℕ) → List ℕ → Bool
fits_any l w = list_any (λ p. fits p w) l

abbrev words_of : List String → List (List ℕ)
words_of [] = []
words_of (s ∷ l) = bytes s ∷ words_of l

abbrev families_of : List String → List (List ℕ)
families_of [] = []
families_of (s ∷ l) = (bytes s ++ (code "#" ∷ [])) ∷ families_of l

abbrev pub patterns : List (List ℕ)
patterns = (words_of singles ++ families_of families) ++ words_of others

-- each family has eight words
eighty_three : length singles + 8 * length families + length others ≡ 83
eighty_three = refl

-- no quoted word has a `#`
abbrev plain : List ℕ → Bool
plain [] = true
plain (c ∷ w) = cond (eqb c (code "#")) false (plain w)

abbrev all_plain : List String → Bool
all_plain [] = true
all_plain (s ∷ l) = cond (plain (bytes s)) (all_plain l) false

parted : (b c : Bool) → cond b false c ≡ true → (b ≡ false) × (c ≡ true)
parted false c e = (refl, e)
parted true c e = absurd (let o : ◌≡◌ {A = ℕ} 0 1 = cc in omega arith)

both : (b c : Bool) → cond b c false ≡ true → (b ≡ true) × (c ≡ true)
both true c e = (refl, e)
both false c e = absurd (let o : ◌≡◌ {A = ℕ} 0 1 = cc in omega arith)

and-false : (b : Bool) → (b && false) ≡ false
and-false true = refl
and-false false = refl

or_assoc : (a b c : Bool) → ((a || b) || c) ≡ (a || (b || c))
or_assoc true b c = refl
or_assoc false b c = refl

-- a plain word is fitted by itself alone
same_fits : (p w : List ℕ) → plain p ≡ true → same p w ≡ fits p w
same_fits [] [] h = refl
same_fits [] (c ∷ w) h = refl
same_fits (x ∷ p) [] h = refl
same_fits (x ∷ p) (c ∷ w) h = let e = parted (eqb x (code "#")) (plain p) h in rw (e.0, same_fits p w e.1)

-- and a family by its eight words
is_there : Option ℕ → Bool
is_there none = false
is_there (some i) = true

in_family : (p w : List ℕ) → plain p ≡ true → is_there (stage_in p w) ≡ fits (p ++ (code "#" ∷ [])) w
unfolding is_there
in_family [] [] h = refl
in_family [] (d ∷ []) h = digit (leb (code "0") d && leb d (code "7")) (d - code "0")
  where
    digit : (b : Bool) (i : ℕ) → is_there (cond b (some i) none) ≡ (b && true)
    digit true i = refl
    digit false i = refl
in_family [] (d ∷ (c ∷ w)) h = sym (and-false (fits_byte (code "#") d))
in_family (x ∷ p) [] h = refl
in_family (x ∷ p) (c ∷ w) h = let e = parted (eqb x (code "#")) (plain p) h in rw (e.0, ← in_family p w e.1) (letter (eqb x c) (stage_in p w))
  where
    letter : (b : Bool) (o : Option ℕ) → is_there (cond b o none) ≡ (b && is_there o)
    letter true o = refl
    letter false o = refl

-- the parts of the table
of_others : (l : List String) (w : List ℕ) → all_plain l ≡ true → one_of l w ≡ fits_any (words_of l) w
of_others [] w h = refl
of_others (s ∷ l) w h = let e = both (plain (bytes s)) (all_plain l) h in rw (same_fits (bytes s) w e.0, of_others l w e.1)

of_families : (l : List String) (k : ℕ) (w : List ℕ) → all_plain l ≡ true → is_listed (in_families l k w) ≡ fits_any (families_of l) w
unfolding is_there
of_families [] k w h = refl
of_families (s ∷ l) k w h =
    let e = both (plain (bytes s)) (all_plain l) h in
    rw (← in_family (bytes s) w e.0, ← of_families l (suc k) w e.1) (found (stage_in (bytes s) w) (in_families l (suc k) w))
  where
    found : (o : Option ℕ) (r : Option Name) → is_listed (elim o [ some i ↦ some (name k i) | none ↦ r ]) ≡ (is_there o || is_listed r)
    found (some i) r = refl
    found none r = refl

of_singles : (l : List String) (k : ℕ) (w : List ℕ) → all_plain l ≡ true
    → is_listed (in_list l k w) ≡ (fits_any (words_of l) w || fits_any (families_of families) w)
of_singles [] k w h = of_families families k w refl
of_singles (s ∷ l) k w h =
    let e = both (plain (bytes s)) (all_plain l) h in
    found (same (bytes s) w) (in_list l (suc k) w)
    ∙ rw (same_fits (bytes s) w e.0, of_singles l (suc k) w e.1)
    (sym (or_assoc (fits (bytes s) w) (fits_any (words_of l) w) (fits_any (families_of families) w)))
  where
    found : (b : Bool) (r : Option Name) → is_listed (cond b (some (name k 0)) r) ≡ (b || is_listed r)
    found true r = refl
    found false r = refl

fits_any-append : (a b : List (List ℕ)) (w : List ℕ) → fits_any (a ++ b) w ≡ (fits_any a w || fits_any b w)
fits_any-append [] b w = refl
fits_any-append (p ∷ a) b w = rw (fits_any-append a b w) (sym (or_assoc (fits p w) (fits_any a w) (fits_any b w)))

reserved_patterns : (w : List ℕ) → reserved_word w ≡ fits_any patterns w
unfolding reserved_word
reserved_patterns w =
    rw (
      of_singles singles 0 w refl,
      of_others others w refl,
      fits_any-append (words_of singles ++ families_of families) (words_of others) w,
      fits_any-append (words_of singles) (families_of families) w,
    )

-- the patterns of a length
abbrev pub of_length : ℕ → List (List ℕ) → List (List ℕ)
of_length n [] = []
of_length n (p ∷ r) = cond (eqb (length p) n) (p ∷ of_length n r) (of_length n r)

pub another_length : (p w : List ℕ) → (length p ≡ length w → ⊥) → fits p w ≡ false
another_length [] [] h = absurd (h refl)
another_length [] (c ∷ w) h = refl
another_length (x ∷ p) [] h = refl
another_length (x ∷ p) (c ∷ w) h = rw (another_length p w (λ e. h (ap suc e))) (and-false (fits_byte x c))

one_by_one : (ps : List (List ℕ)) (w : List ℕ) → fits_any (of_length (length w) ps) w ≡ fits_any ps w
one_by_one [] w = refl
one_by_one (p ∷ r) w = by (eqb (length p) (length w)) refl (one_by_one r w)
  where
    rest : List (List ℕ)
    rest = of_length (length w) r

    by : (b : Bool) → eqb (length p) (length w) ≡ b → fits_any rest w ≡ fits_any r w → fits_any (cond b (p ∷ rest) rest) w ≡ (fits p w || fits_any r w)
    by false e h = rw (another_length p w (eqb-false (length p) (length w) e)) h
    by true e h = rw h

pub by_length : (w : List ℕ) → fits_any (of_length (length w) patterns) w ≡ reserved_word w
by_length w = one_by_one patterns w ∙ sym (reserved_patterns w)

pub of_length_lem : (n : ℕ) (w : List ℕ) → length w ≡ n → fits_any (of_length n patterns) w ≡ reserved_word w
of_length_lem n w h = rw h at (by_length w)

-- the lengths of the words, the last of them first, and a length that is none of them
abbrev pub lengths : List ℕ
lengths = 21 ∷ 11 ∷ 9 ∷ 8 ∷ 7 ∷ 6 ∷ 5 ∷ 4 ∷ 3 ∷ 2 ∷ []

abbrev pub Avoids : List ℕ → ℕ → Type 0
Avoids [] n = Unit {0}
Avoids (k ∷ l) n = Avoids l n × (n ≡ k → ⊥)

abbrev among : List ℕ → ℕ → Bool
among [] k = false
among (x ∷ l) k = cond (eqb k x) true (among l k)

abbrev all_among : List ℕ → List (List ℕ) → Bool
all_among l [] = true
all_among l (p ∷ r) = cond (among l (length p)) (all_among l r) false

abbrev below : List ℕ → ℕ → Bool
below [] n = true
below (k ∷ l) n = cond (ltb k n) (below l n) false

avoided : (l : List ℕ) (k n : ℕ) → among l k ≡ true → Avoids l n → eqb k n ≡ false
avoided [] k n h a = absurd (let o : ◌≡◌ {A = ℕ} 0 1 = cc in omega arith)
avoided (x ∷ l) k n h a = by (eqb k x) refl h (λ m. avoided l k n m a.0)
  where
    by : (b : Bool) → eqb k x ≡ b → cond b true (among l k) ≡ true → (among l k ≡ true → eqb k n ≡ false) → eqb k n ≡ false
    by true e m f = ne_eqb k n (λ g. a.1 (sym g ∙ eqb-true k x e))
    by false e m f = f m

none_of_length : (l : List ℕ) (ps : List (List ℕ)) (n : ℕ) → all_among l ps ≡ true → Avoids l n → of_length n ps ≡ []
none_of_length l [] n h a = refl
none_of_length l (p ∷ r) n h a = let e = both (among l (length p)) (all_among l r) h in rw (avoided l (length p) n e.0 a) (none_of_length l r n e.1 a)

none_left : (ps : List (List ℕ)) (w : List ℕ) {b : Bool} → ps ≡ [] → fits_any ps w ≡ b → false ≡ b
none_left [] w e h = h
none_left (p ∷ ps) w e h = absurd (let o : ◌≡◌ {A = ℕ} 0 1 = cc in omega arith)

-- there is no word of another length, and none above 21 bytes
pub of_no_length : (w : List ℕ) → Avoids lengths (length w) → false ≡ reserved_word w
of_no_length w a = none_left (of_length (length w) patterns) w (none_of_length lengths patterns (length w) refl a) (by_length w)

above : (l : List ℕ) (n : ℕ) → below l n ≡ true → Avoids l n
above [] n h = tt
above (k ∷ l) n h = let e = both (ltb k n) (below l n) h in let g = ltb-true k n e.0 in (above l n e.1, λ f. omega arith)

long_name : (w : List ℕ) → length w ≡ 32 → false ≡ reserved_word w
long_name w h = of_no_length w (rw h (above lengths 32 refl))

-- a length above 32 leaves all of the 32 bytes, and no word is that long
pub too_long : (e : Entry) → length e.name ≡ 32 → 32 < e.len → false ≡ entry_reserved e
too_long e h k = rw (take_all e.len e.name (omega arith)) (long_name e.name h)

-- Decimal numbers, the lines of the program, and their lengths.
use mathlib.Core.Path.{◌≡◌, refl}
use mathlib.Core.Bool.{Bool, true, false, cond}
use mathlib.Core.List.{List, [], ◌∷◌, ◌++◌}
use Prim.Native.Nat.{ℕ, zero, suc, ◌+◌, ◌/◌, ◌%◌, ◌≤◌, ◌<◌}
use native.Mathlib.Omega.{arith}
use lib.Dec.{ltb}
use lib.ListN.{length, take, get_or, length-append}
use Rattle.std.proofs.lemmas.Grind.{take_at_read}
use Rattle.text.specs.Text.{Text, bytes, lit, flat, ◌⊕◌, decimal, decimal_of}
use Rattle.text.specs.Buffer.{Wrote}
use Rattle.text.proofs.Laws.{◌⨾◌, whole}
use Rattle.values.specs.declared.Emitted.{Emitted}
use Rattle.values.specs.Refusals.{number_of}
use Rattle.values.specs.declared.Refusal.{Refusal}
use Rattle.printout.specs.Program.{emit_text, emit_line, end_text, end_line, refused_text, refused_line}
use Rattle.printout.specs.Program.{line_after}

one_more : (b : Bool) (d m k : ℕ) (x : List ℕ) → length x ≤ d → length (cond b (m ∷ []) (x ++ (k ∷ []))) ≤ suc d
one_more true d m k x h = omega arith
one_more false d m k x h = simp length-append (omega arith)

digits_short : (d n : ℕ) → length (flat (decimal_of d n)) ≤ d
unfolding decimal_of
digits_short zero n = omega arith
digits_short (suc d) n = one_more (ltb n 10) d (48 + n) (48 + n % 10) (flat (decimal_of d (n / 10))) (digits_short d (n / 10))

yes_or_no : (b : Bool) → length (cond b (bytes "1") (bytes "0")) ≡ 1
yes_or_no true = refl
yes_or_no false = refl

-- numbers behind a text, with a space behind each
abbrev pub spaced : Text → List ℕ → Text
spaced t [] = t
spaced t (n ∷ r) = spaced (t ⊕ decimal n ⊕ lit " ") r

spaced_more : (t : Text) (l : List ℕ) (n : ℕ) → spaced t (l ++ (n ∷ [])) ≡ spaced t l ⊕ decimal n ⊕ lit " "
spaced_more t [] n = refl
spaced_more t (x ∷ l) n = spaced_more (t ⊕ decimal x ⊕ lit " ") l n

-- one number more of a list
pub next_number : {l l' l'' : List ℕ} {a a' a'' i : ℕ} (t : Text) (ns : List ℕ) → i < length ns → Wrote l a l' a' (spaced t (take i ns)) →
    Wrote l' a' l'' a'' (decimal (get_or ns i 0) ⊕ lit " ") → Wrote l a l'' a'' (spaced t (take (i + 1) ns))
next_number {i = i} t ns h w v =
    rw ((take_at_read ns i 0 h).1, spaced_more t (take i ns) (get_or ns i 0)) (w ⨾ v)

emit_short : (e : Emitted) → length (emit_line e) ≤ 152
unfolding emit_line
emit_short e =
    let short : (n : ℕ) → length (flat (decimal n)) ≤ 20 = digits_short 20 in
    simp length-append
    (omega (
      arith,
      short e.mask,
      short e.rows,
      short e.lookups,
      short e.warnings.op,
      short e.warnings.selector,
      short e.warnings.modifier,
      yes_or_no e.alpha_warning,
    ))

end_short : (n : ℕ) → length (end_line n) ≤ 152
unfolding end_line
end_short n = simp length-append (omega (arith, digits_short 20 n))

refused_short : (c : Refusal) (p : ℕ) → length (refused_line c p) ≤ 152
unfolding refused_line
refused_short c p = simp length-append (omega (arith, digits_short 20 (number_of c), digits_short 20 p))

-- A line in a buffer with room for it: its length is answered, and the bytes behind it stay.
abbrev Line : List ℕ → List ℕ → List ℕ → ℕ → Type 0
Line line l l' n = (n ≡ length line) × (l' ≡ line_after line l)

front_line : {l l' : List ℕ} {n : ℕ} {t : Text} → Wrote l 0 l' n t → length (flat t) ≤ 152 → length l ≡ 160 → Line (flat t) l l' n
front_line w s h = (omega (arith, (w.fits (omega arith)).1), whole w (omega arith))

pub emit_line_lem : {l l' : List ℕ} {n : ℕ} (e : Emitted) → Wrote l 0 l' n (emit_text e) → length l ≡ 160 → Line (emit_line e) l l' n
unfolding emit_line
emit_line_lem e w h = front_line w (emit_short e) h

pub end_line_lem : {l l' : List ℕ} {n : ℕ} (m : ℕ) → Wrote l 0 l' n (end_text m) → length l ≡ 160 → Line (end_line m) l l' n
unfolding end_line
end_line_lem m w h = front_line w (end_short m) h

pub refused_line_lem : {l l' : List ℕ} {n : ℕ} (c : Refusal) (p : ℕ) → Wrote l 0 l' n (refused_text c p) → length l ≡ 160 → Line (refused_line c p) l l' n
unfolding refused_line
refused_line_lem c p w h = front_line w (refused_short c p) h

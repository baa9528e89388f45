-- 8 cannot occur in the program: whatever the input, the last line that is printed is `end N`, or `refused C at P` with another number than 8.
use mathlib.Core.Path.{◌≡◌, refl, sym, ap, subst, ◌∙◌}
use mathlib.Core.Bool.{Bool, true, false, cond}
use mathlib.Core.List.{List, [], ◌∷◌, ◌++◌, append_assoc}
use Prim.Native.Nat.{ℕ, zero, suc, ◌+◌, ◌/◌, ◌%◌}
use Prim.Native.Char.{code}
use native.Mathlib.Omega.{arith}
use lib.Dec.{eqb, ltb}
use lib.ListN.{length, drop, get_or, length-append}
use lib.Seq.{drop_at}
use Rattle.text.specs.Text.{bytes, flat, decimal, decimal_of}
use Rattle.std.specs.Prelude.{Option, Some, None, Result, Ok, Err}
use Rattle.std.proofs.lemmas.Bool.{cond_both}
use Rattle.values.specs.Refusals.{number_of, answer_number}
use Rattle.values.specs.declared.Emitted.{Emitted}
use Rattle.values.specs.declared.Refusal.{Refusal}
use Rattle.values.specs.declared.Refusal.TheVariants as refusal
use Rattle.records.specs.Applying.{nothing_held, all_held, text_held, apply_answer, held_after}
use Rattle.records.specs.declared.Held.{Held}
use Rattle.records.specs.declared.Applied.{Applied}
use Rattle.records.proofs.Room.{EightStages, nothing_held_eight, applied_eight, applied_never_eight}
use Rattle.printout.specs.Program.{input_room, text_room, emit_line, end_line, refused_line, text_printed, printed, printed_from, program_output}

-- How what is printed ends: in an `end` line, or in the line of a refusal that is not 8.
pub data Ends : List ℕ → Type 0 where
  ended : (before : List ℕ) (n : ℕ) → Ends (before ++ end_line n)
  refused : (before : List ℕ) (c : Refusal) (p : ℕ) → (number_of c ≡ 8 → ⊥) → Ends (before ++ refused_line c p)

behind : (x : List ℕ) {out : List ℕ} → Ends out → Ends (x ++ out)
behind x (ended before n) = subst Ends (append_assoc x before (end_line n)) (ended (x ++ before) n)
behind x (refused before c p f) = subst Ends (append_assoc x before (refused_line c p)) (refused (x ++ before) c p f)

printed_ends : (a : Result Applied Refusal) (p : ℕ) (h : Held) (go_on : ℕ → ℕ → List ℕ) → (answer_number a ≡ 8 → ⊥) → ((m more : ℕ) → Ends (go_on m more)) →
    Ends (printed a p h go_on)
unfolding printed
printed_ends (Ok x) p h go_on f g = go x.text (g x.length)
  where
    go : {rest : ℕ → List ℕ} (e : Option Emitted) → ((more : ℕ) → Ends (rest more)) → Ends (text_printed e h rest)
    go None k = k 0
    go (Some e) k = behind (emit_line e) (behind (text_held (all_held h)) (k 1))
printed_ends (Err c) p h go_on f g = refused [] c p f

from_ends : (turns p n : ℕ) (h : Held) (b : List ℕ) → EightStages h → Ends (printed_from turns p n h b)
unfolding printed_from
from_ends zero p n h b s = ended [] n
from_ends (suc turns) p n h b s =
    cond_both (eqb (length b) 0) _ _ Ends (λ _. ended [] n) (λ _.
    printed_ends (apply_answer h b text_room) p h _ (applied_never_eight h s text_room (omega arith) b)
    (λ m more. from_ends turns (p + m) (n + more) (held_after h b) (drop m b) (applied_eight h b s)))

pub ends : (input : List ℕ) → Ends (program_output input)
unfolding program_output
ends input =
    cond_both (ltb input_room (length input)) _ _ Ends (λ _. refused [] refusal.InputTooLong input_room (λ e. omega arith)) (λ _.
    from_ends (length input) 0 0 nothing_held input nothing_held_eight)

-- The same of the printed bytes. A line's words are found from its end, since no word has a space in it.
abbrev space : ℕ
space = code " "

abbrev newline : ℕ
newline = code "\n"

abbrev Word : List ℕ → Type 0
Word [] = Unit {0}
Word (x ∷ l) = (x ≡ space → ⊥) × Word l

word-append : (x y : List ℕ) → Word x → Word y → Word (x ++ y)
word-append [] y p q = q
word-append (a ∷ x) y p q = (p.0, word-append x y p.1 q)

digits_word : (d n : ℕ) → Word (flat (decimal_of d n))
unfolding decimal_of
digits_word zero n = tt
digits_word (suc d) n = go (ltb n 10) (digits_word d (n / 10))
  where
    go : (t : Bool) → Word (flat (decimal_of d (n / 10))) → Word (cond t ((48 + n) ∷ []) (flat (decimal_of d (n / 10)) ++ ((48 + n % 10) ∷ [])))
    go true w = ((λ e. omega arith), tt)
    go false w = word-append (flat (decimal_of d (n / 10))) _ w ((λ e. omega arith), tt)

no_space : (w x v : List ℕ) → Word w → w ≡ x ++ (space ∷ v) → ⊥
no_space [] [] v p e = let z : ◌≡◌ {A = ℕ} 0 1 = cc in omega arith
no_space [] (b ∷ x) v p e = let z : ◌≡◌ {A = ℕ} 0 1 = cc in omega arith
no_space (a ∷ w) [] v p e = p.0 cc
no_space (a ∷ w) (b ∷ x) v p e = no_space w x v p.1 cc

last_word : (x y w v : List ℕ) → Word w → Word v → x ++ (space ∷ w) ≡ y ++ (space ∷ v) → (x ≡ y) × (w ≡ v)
last_word [] [] w v p q e = (refl, cc)
last_word [] (b ∷ y) w v p q e = absurd (no_space w y v p cc)
last_word (a ∷ x) [] w v p q e = absurd (no_space v x w q (let f : x ++ (space ∷ w) ≡ v = cc in sym f))
last_word (a ∷ x) (b ∷ y) w v p q e =
    let f : x ++ (space ∷ w) ≡ y ++ (space ∷ v) = cc in
    let r = last_word x y w v p q f in
    (cc, r.1)

same_end : (x z u v : List ℕ) → length u ≡ length v → x ++ u ≡ z ++ v → u ≡ v
same_end x z u v l e =
    let n : length z ≡ length x = omega (arith, l, simp length-append at (ap length e)) in
    sym (drop_at x u (length x) refl) ∙ ap (drop (length x)) e ∙ drop_at z v (length x) n

-- a line's number and its end
abbrev number_then_end : ℕ → List ℕ
number_then_end n = flat (decimal n) ++ (newline ∷ [])

number_word : (n : ℕ) → Word (number_then_end n)
number_word n = word-append (flat (decimal n)) (newline ∷ []) (digits_word 20 n) ((λ e. omega arith), tt)

at_word : Word (bytes "at")
at_word = ((λ e. omega arith), ((λ e. omega arith), tt))

end_words : (x : List ℕ) (n : ℕ) → x ++ end_line n ≡ (x ++ bytes "end") ++ (space ∷ number_then_end n)
unfolding end_line
end_words x n = sym (append_assoc x (bytes "end") (space ∷ number_then_end n))

-- a refused line without its last two words
abbrev numbered : List ℕ → Refusal → List ℕ
numbered x c = (x ++ bytes "refused") ++ (space ∷ flat (decimal (number_of c)))

refused_words : (x : List ℕ) (c : Refusal) (p : ℕ) → x ++ refused_line c p ≡ (numbered x c ++ (space ∷ bytes "at")) ++ (space ∷ number_then_end p)
unfolding refused_line
refused_words x c p =
    let number = flat (decimal (number_of c)) in
    let end : List ℕ = space ∷ number_then_end p in
    sym (append_assoc x (bytes "refused") (space ∷ (number ++ ((space ∷ bytes "at") ++ end))))
    ∙ sym (append_assoc (x ++ bytes "refused") (space ∷ number) ((space ∷ bytes "at") ++ end))
    ∙ sym (append_assoc (numbered x c) (space ∷ bytes "at") end)

-- the digits of another number
abbrev first_byte : List ℕ → ℕ
first_byte l = get_or l 0 0

other : (c : Refusal) → (number_of c ≡ 8 → ⊥) → flat (decimal (number_of c)) ≡ flat (decimal 8) → ⊥
unfolding decimal_of
other refusal.CutShort f e = omega (arith, ap first_byte e)
other refusal.UnknownKind f e = omega (arith, ap first_byte e)
other refusal.StageFlags f e = omega (arith, ap first_byte e)
other refusal.SpecularAdd f e = omega (arith, ap first_byte e)
other refusal.VariantFlags f e = omega (arith, ap first_byte e)
other refusal.EntryName f e = omega (arith, ap first_byte e)
other refusal.EmitTooEarly f e = omega (arith, ap first_byte e)
other refusal.NoRoom f e = f refl
other refusal.InputTooLong f e = omega (arith, ap first_byte e)
other refusal.ReservedWord f e = omega (arith, ap first_byte e)
other refusal.StageNumber f e = omega (arith, ap first_byte e)
other refusal.StateType f e = omega (arith, ap first_byte e)
other refusal.StateValue f e = omega (arith, ap first_byte e)

not_eight : {out : List ℕ} → Ends out → (y : List ℕ) (q : ℕ) → out ≡ y ++ refused_line refusal.NoRoom q → ⊥
not_eight (ended x n) y q e =
    let w =
    last_word (x ++ bytes "end") (numbered y refusal.NoRoom ++ (space ∷ bytes "at")) _ _ (number_word n) (number_word q)
    (sym (end_words x n) ∙ e ∙ refused_words y refusal.NoRoom q)
    in
    omega (arith, ap first_byte (same_end x (numbered y refusal.NoRoom) (bytes "end") (space ∷ bytes "at") refl w.0))
not_eight (refused x c p f) y q e =
    let w₃ =
    last_word (numbered x c ++ (space ∷ bytes "at")) (numbered y refusal.NoRoom ++ (space ∷ bytes "at")) _ _ (number_word p) (number_word q)
    (sym (refused_words x c p) ∙ e ∙ refused_words y refusal.NoRoom q)
    in
    let w₂ = last_word (numbered x c) (numbered y refusal.NoRoom) (bytes "at") (bytes "at") at_word at_word w₃.0 in
    let w₁ = last_word (x ++ bytes "refused") (y ++ bytes "refused") _ _ (digits_word 20 (number_of c)) (digits_word 20 8) w₂.0 in
    other c f w₁.1

-- No output of the program ends in a line `refused 8 at P`.
pub never_eight : (input before : List ℕ) (p : ℕ) → program_output input ≡ before ++ refused_line refusal.NoRoom p → ⊥
never_eight input before p e = not_eight (ends input) before p e

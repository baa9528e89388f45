-- One more byte asked, one more stage read, and the flags of one more stage asked.
use Prim.Native.Nat.{ℕ, zero, suc, ◌+◌, ◌-◌, ◌*◌, ◌<◌}
use mathlib.Core.Bool.{Bool, true, false, ◌||◌, or-false}
use mathlib.Core.Path.{◌≡◌, refl, sym, ap, ◌∙◌}
use mathlib.Core.List.{List, [], ◌∷◌, ◌++◌}
use native.Mathlib.Numerals.{add-one}
use native.Mathlib.Omega.{arith}
use lib.Dec.{leb}
use lib.ListN.{length, take, drop, get_or}
use lib.Seq.{take-suc, drop-drop, get_or-drop}
use Rattle.combiners.specs.Combiners.{three_operands}
use Rattle.values.specs.Flags.{stage_flags_bad}
use Rattle.values.specs.declared.Stage.{Stage}
use Rattle.wire.specs.Bodies.{stage_size, stage_from_bytes, stages_from_bytes}
use Rattle.wire.proofs.Laws.{each_at, next_stage}
use Rattle.inspection.specs.Raw.{any_byte_of_three, raw_stage, raw_stages}

or_assoc : (a b c : Bool) → ((a || b) || c) ≡ (a || (b || c))
or_assoc true b c = refl
or_assoc false b c = refl

any_behind : (l : List ℕ) (x : ℕ) → any_byte_of_three (l ++ (x ∷ [])) ≡ any_byte_of_three l || three_operands x
unfolding any_byte_of_three
any_behind [] x = or-false (three_operands x)
any_behind (y ∷ l) x = rw (any_behind l x) (sym (or_assoc (three_operands y) (any_byte_of_three l) (three_operands x)))

pub byte_asked : (l : List ℕ) (i : ℕ) {found here : Bool} → i < length l → found ≡ any_byte_of_three (take i l) → here ≡ three_operands (get_or l i 0)
    → (found || here) ≡ any_byte_of_three (take (i + 1) l)
byte_asked l i h f t = rw (f, t, add-one, take-suc l i 0 h) (sym (any_behind (take i l) (get_or l i 0)))

-- the stages of a body, each read where it stands
pub stages_made : (b : List ℕ) (i n : ℕ) → each_at (λ k. raw_stage (drop (7 * k) b)) i n ≡ raw_stages n (drop (7 * i) b)
unfolding raw_stages
stages_made b i zero = refl
stages_made b i (suc n) =
    let e : drop 7 (drop (7 * i) b) ≡ drop (7 * (i + 1)) b = drop-drop 7 (7 * i) b ∙ ap (λ (k : ℕ). drop k b) (omega arith) in
    rw (e, stages_made b (i + 1) n)

flags_behind : (l : List Stage) (s : Stage) → stage_flags_bad (l ++ (s ∷ [])) ≡ stage_flags_bad l || leb 4 s.flags
unfolding stage_flags_bad
flags_behind [] s = or-false (leb 4 s.flags)
flags_behind (t ∷ l) s = rw (flags_behind l s) (sym (or_assoc (leb 4 t.flags) (stage_flags_bad l) (leb 4 s.flags)))

-- the flags are the last byte of a stage
last_byte : (wide : Bool) (b : List ℕ) (n : ℕ)
    → get_or b (stage_size wide * n + stage_size wide - 1) 0 ≡ (stage_from_bytes wide (drop (stage_size wide * n) b)).flags
last_byte true b n = sym (get_or-drop (9 * n) b 8 0 ∙ ap (λ (k : ℕ). get_or b k 0) (omega arith))
last_byte false b n = sym (get_or-drop (7 * n) b 6 0 ∙ ap (λ (k : ℕ). get_or b k 0) (omega arith))

pub stage_asked : (wide : Bool) (b : List ℕ) (n : ℕ) {bad here : Bool} → bad ≡ stage_flags_bad (stages_from_bytes wide n b) →
    here ≡ leb 4 (get_or b (stage_size wide * n + stage_size wide - 1) 0) → (bad || here) ≡ stage_flags_bad (stages_from_bytes wide (n + 1) b)
stage_asked wide b n e f =
    rw (e, f, add-one, next_stage wide n b, last_byte wide b n)
    (sym (flags_behind (stages_from_bytes wide n b) (stage_from_bytes wide (drop (stage_size wide * n) b))))

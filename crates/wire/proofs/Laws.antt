-- One more stage in the loops over the stages of a key.
use mathlib.Core.Path.{◌≡◌, refl, sym, ap, subst, ◌∙◌}
use denote.Param.Members.{Mut}
use Rattle.std.specs.Array.{IsFromFnResultFrom}
use Rattle.std.specs.Iterator.{ActsAs}
use mathlib.Core.Bool.{Bool, true, false}
use mathlib.Core.List.{List, [], ◌∷◌, ◌++◌, append_assoc, append-nil}
use Prim.Native.Nat.{ℕ, zero, suc, ◌+◌, ◌*◌, ◌<◌}
use native.Mathlib.Numerals.{add-one}
use native.Mathlib.Omega.{arith}
use lib.ListN.{length, take, drop, get_or}
use lib.Seq.{drop-drop, take-suc, drop-cons}
use Rattle.std.proofs.Common.{drop_of_length-le}
use Rattle.values.specs.declared.Stage.{Stage}
use Rattle.wire.specs.Bodies.{stage_size, stage_bytes, stages_bytes, stage_from_bytes, stages_from_bytes}

pub none_before : (wide : Bool) → 0 ≡ stage_size wide * 0
none_before true = refl
none_before false = refl

pub one_more : (wide : Bool) (n : ℕ) → stage_size wide + stage_size wide * n ≡ stage_size wide * suc n
one_more true n = omega arith
one_more false n = omega arith

-- one more stage read
pub next_stage : (wide : Bool) (n : ℕ) (b : List ℕ) →
    stages_from_bytes wide (suc n) b ≡ stages_from_bytes wide n b ++ (stage_from_bytes wide (drop (stage_size wide * n) b) ∷ [])
unfolding stages_from_bytes
next_stage wide zero b = ap (λ (m : ℕ). stage_from_bytes wide (drop m b) ∷ []) (none_before wide)
next_stage wide (suc n) b =
    let m = stage_size wide in
    let e : drop (m * n) (drop m b) ≡ drop (m * suc n) b = drop-drop (m * n) m b ∙ ap (λ (k : ℕ). drop k b) (one_more wide n) in
    ap (λ (l : List Stage). stage_from_bytes wide b ∷ l) (next_stage wide n (drop m b) ∙ rw e)

-- What `from_fn` makes, where each call of its closure leaves the closure as it was and gives what h gives.
abbrev pub each_at : {B : Type 0} → (ℕ → B) → ℕ → ℕ → List B
each_at h i zero = []
each_at h i (suc n) = h i ∷ each_at h (i + 1) n

pub made : {F B : Type 0} (g : Mut F (ℕ × Unit {0}) B) (h : ℕ → B) {f : F} (l : List B) → ActsAs g f h → (i n : ℕ) → IsFromFnResultFrom g f l i n
    → length l ≡ i + n → drop i l ≡ each_at h i n
made g h l acts i zero m e = drop_of_length-le l (omega arith)
made {F} {B} g h l acts i (suc n) m e =
    let a = acts i m.1 m.0 m.3 in
    let rest = subst (λ (f : F). IsFromFnResultFrom g f l (i + 1) n) a.0 m.4 in
    drop-cons l i (h i) (omega arith)
    ∙ rw (m.2.1 (h i), a.1) (ap (λ (r : List B). h i ∷ r) (ap (λ (k : ℕ). drop k l) (sym (add-one i)) ∙ made g h l acts (i + 1) n rest (omega arith)))

-- the stages of a body, each read where it stands
pub stages_made : (wide : Bool) (b : List ℕ) (i n : ℕ)
    → each_at (λ k. stage_from_bytes wide (drop (stage_size wide * k) b)) i n ≡ stages_from_bytes wide n (drop (stage_size wide * i) b)
unfolding stages_from_bytes
stages_made wide b i zero = refl
stages_made wide b i (suc n) =
    let m = stage_size wide in
    let e : drop m (drop (m * i) b) ≡ drop (m * (i + 1)) b = drop-drop m (m * i) b ∙ rw add-one (ap (λ (k : ℕ). drop k b) (omega (arith, one_more wide i))) in
    rw (e, stages_made wide b (i + 1) n)

-- one more stage written
stages-append : (wide : Bool) (x y : List Stage) → stages_bytes wide (x ++ y) ≡ stages_bytes wide x ++ stages_bytes wide y
unfolding stages_bytes
stages-append wide [] y = refl
stages-append wide (s ∷ x) y = rw (stages-append wide x y, append_assoc (stage_bytes wide s) (stages_bytes wide x) (stages_bytes wide y))

pub stage_bytes_more : (wide : Bool) (l : List Stage) (i : ℕ) (d : Stage) → i < length l →
    stages_bytes wide (take i l) ++ stage_bytes wide (get_or l i d) ≡ stages_bytes wide (take (i + 1) l)
unfolding stages_bytes
stage_bytes_more wide l i d h = rw (add-one, take-suc l i d h, stages-append, append-nil)

-- The pieces of the patterns come in turn, each as long as the name.
use Rattle.std.proofs.Common.{◌≡◌, ℕ, zero, suc, ◌*◌, ◌/◌, ◌<◌, ◌≤◌, List, length, take, drop, arith, rules, tests, sym, ap, ◌∙◌, length-append}
use Rattle.std.proofs.Math.Nat.{mul_comm, suc-mul}
use Rattle.std.proofs.Math.Seq.{take-append_seam, drop-append_seam}
use Rattle.std.specs.Iterator.{AlwaysYields}
use Rattle.std.specs.Slice.Iter.{chunks_exact_steps, chunks_exact_rest, chunks_exact_size}
use Rattle.std.proofs.lemmas.Iterator.{YieldsList}
use Rattle.std.proofs.lemmas.Iterator.Search.{any_from_yields_List}
use Rattle.admission.specs.Patterns.{chunks, fits}
use Rattle.admission.proofs.words.fits_any.Goals as goal

pieces : (n k : ℕ) (s : _) → 0 < n → chunks_exact_size s ≡ n → k * n ≤ length (chunks_exact_rest s) → length (chunks_exact_rest s) < suc k * n
    → AlwaysYields (chunks_exact_steps {A = ℕ}) (λ x. x.now) s (chunks n k (chunks_exact_rest s))
pieces n zero s h e a b = λ x j p. let l = ap length p.1.0 ∙ length-append x.now (chunks_exact_rest j) in omega (arith, p.1.1)
pieces n (suc k) s h e a b = (
  (λ j p. omega (arith, p.1.0, suc-mul k n)),
  λ x j p.
      let m : length x.now ≡ n = p.1.1 ∙ e in
      let l = ap length p.1.0 ∙ length-append x.now (chunks_exact_rest j) in
      let first : take n (chunks_exact_rest s) ≡ x.now = rw (p.1.0, ← m) (take-append_seam x.now (chunks_exact_rest j)) in
      let left : drop n (chunks_exact_rest s) ≡ chunks_exact_rest j = rw (p.1.0, ← m) (drop-append_seam x.now (chunks_exact_rest j)) in
      (sym first, rw left (pieces n k j h (p.0 ∙ e) (omega (arith, suc-mul k n)) (omega (arith, suc-mul k n, suc-mul (suc k) n)))),
)

all_pieces : (n : ℕ) (l : List ℕ) (s : _) → 0 < n → chunks_exact_size s ≡ n → chunks_exact_rest s ≡ l
    → YieldsList (chunks_exact_steps {A = ℕ}) (λ x. x.now) s (chunks n (length l / n) l)
all_pieces n l s h e f =
    let m = length (chunks_exact_rest s) in
    let c = mul_comm (m / n) n in
    record { runs = rw (← f) (pieces n (m / n) s h e (omega (arith, c)) (omega (arith, c, suc-mul (m / n) n))) }

pub returns : goal.returns
returns c =
    let n = length c.args.name.now in
    let l = c.args.patterns.now in
    any_from_yields_List (λ (p : List ℕ). fits p c.args.name.now) c.any.new.self _ _ c.any.ensures.ran
    (all_pieces n l c.chunks_exact.result c.requires c.chunks_exact.ensures.size c.chunks_exact.ensures.rest) (λ x b q k. search (rules, tests))

-- Each step judges the byte where the state stands: no byte so far was wrong and those to come are right exactly where the entry is good.
use Rattle.std.proofs.Common.{arith, rules, ◌≡◌, ℕ, ◌+◌, ◌<◌, ◌≤◌, Bool, true, false, cond, ◌&&◌, eqb, List, length, get_or, drop, sym, refl, ap, ◌∙◌}
use Rattle.std.proofs.Common.{mod-eq_of_lt, add-one, drop_of_length-le, drop-cons}
use Rattle.values.specs.declared.Entry.{Entry}
use Rattle.values.specs.Entries.{entry_good}
use Rattle.admission.specs.Pass.{right, started, pass_stepped, possible_in}
use Rattle.admission.specs.declared.entry.Pass.{Pass}
use Rattle.admission.proofs.Passes.{and_assoc, step_on, bytes_good}
use Rattle.admission.proofs.entry.entry_good.Invariants.{good_with}
use Rattle.admission.proofs.entry.entry_good.Goals as goal

abbrev cleared : Pass → Pass
cleared p = record { taken = p.taken; length = p.length; wrong = 0 }

-- a step from a state without a wrong byte leaves it possible exactly where its byte is right
judged : (b : Bool) → eqb (cond b 0 1) 0 ≡ b
judged true = refl
judged false = refl

begun : (e : Entry) (p q : Pass) → p ≡ pass_stepped q e.len → q ≡ started → length e.name ≡ 32 → good_with (possible_in p) p e.name ≡ entry_good e
unfolding pass_stepped right
begun e p q f g h = rw (f, g, judged) (bytes_good e.len e.name h)

one_more : (p : Pass) (c : ℕ) → p.taken < 255 → (pass_stepped p c).taken ≡ p.taken + 1
unfolding pass_stepped
one_more p c h = mod-eq_of_lt (omega arith)

-- a byte more is judged; the last byte was judged
judged_on : (good : Bool) (p q : Pass) (l : List ℕ) (i : ℕ) → q ≡ pass_stepped (cleared p) (get_or l i 0) → 1 ≤ p.taken → p.taken < 255 → i < length l →
    good_with (good && possible_in q) q (drop (i + 1) l) ≡ good_with good p (drop i l)
judged_on good p q l i e h k m =
    rw (e, step_on p.length p.taken 0 (get_or l i 0) h k, judged, add-one, drop-cons l i 0 m) (sym (and_assoc good _ _))

judged_all : (good : Bool) (p : Pass) (l : List ℕ) (i : ℕ) → length l ≤ i → good ≡ good_with good p (drop i l)
judged_all true p l i h = rw (drop_of_length-le l h)
judged_all false p l i h = refl

pub loop-byte-init : goal.loop-byte-init
loop-byte-init c =
    let e = c.args.entry in
    let whole : length e.name ≡ 32 = search rules in
    record {
      whole = whole;
      taken = rw (c.step-pass.ensures, c.new.ensures) (one_more started e.len (omega arith));
      judged = rw c.is_possible-good.ensures (begun e _ _ c.step-pass.ensures c.new.ensures whole);
    }

pub loop-byte-preserved : goal.loop-byte-preserved
loop-byte-preserved c =
    let p = c.loop-byte.pass in
    let v = c.loop-byte.invariant in
    let i = c.loop-byte.byte-index in
    let name = c.args.entry.name in
    let stepped = c.step-pass-in-loop-byte.ensures in
    let on = judged_on c.loop-byte.good p _ name i stepped (omega (arith, v.taken)) (omega (arith, v.taken)) (omega (arith, v.whole)) in
    record {
      whole = v.whole;
      taken = ap (λ (q : Pass). q.taken) stepped ∙ one_more (cleared p) (get_or name i 0) (omega (arith, v.taken)) ∙ ap (λ (t : ℕ). t + 1) v.taken;
      judged = rw c.is_possible-good-in-loop-byte.ensures (on ∙ v.judged);
    }

pub returns : goal.returns
returns c =
    let v = c.loop-byte.invariant in
    judged_all c.loop-byte.good c.loop-byte.pass c.args.entry.name c.loop-byte.byte-index (omega (arith, v.whole)) ∙ v.judged

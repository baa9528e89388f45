-- What a loop of steps uses of each: the parts that it prints lie in their buffers, and what was given of them and what is left are the output.
use mathlib.Core.Path.{◌≡◌, refl, sym}
use mathlib.Core.List.{List, [], ◌∷◌, ◌++◌, append_assoc, append-nil}
use Prim.Native.Nat.{ℕ, ◌≤◌}
use native.Mathlib.Omega.{arith}
use lib.Dec.{eqb}
use lib.ListN.{length, take, drop, length-append}
use Rattle.std.specs.Prelude.{Option, Some, None, IfSome, Result, Ok, Err, IsErrAnd, IfErr, OnOk}
use Rattle.std.proofs.lemmas.Bool.{cond_both}
use Rattle.std.specs.Borrow.{Bor}
use Rattle.std.specs.Fn.{Mut, Called}
use Rattle.std.specs.List.{concat}
use Rattle.std.proofs.lemmas.Fn.{FoldsTo-push, called_at}
use Rattle.std.proofs.lemmas.List.{length-take-le, take_at}
use Rattle.std.proofs.lemmas.List.Folds.{concat-append}
use Rattle.std.proofs.lemmas.Result.{err_from_is_err_and}
use Rattle.values.specs.declared.Emitted.{Emitted}
use Rattle.values.specs.declared.Refusal.{Refusal}
use Rattle.records.specs.Applying.{all_held, text_held, apply_answer, held_after}
use Rattle.records.specs.declared.Held.{Held}
use Rattle.records.specs.declared.Applied.{Applied}
use Rattle.printout.specs.Giving.{Gave, Refused}
use Rattle.printout.specs.Part.{Accepts}
use Rattle.printout.specs.Program.{line_after, text_room}
use Rattle.printout.specs.Steps.{Step, text_step, answered_step, ready, step_of}
use Rattle.printout.specs.declared.Session.{Session}
use Rattle.printout.specs.declared.Printing.{Printing}
use Rattle.printout.proofs.Taking.{Sized, sized}
use Rattle.printout.proofs.Printed.{less_left, left_for, left_step, Within, begun_left, begun_within}

abbrev Fits : Step → Type 0
Fits t = (t.answer.line ≡ length t.line) × (t.answer.text ≤ length t.text)

answered_fits : (a : Result Applied Refusal) (h : Held) (s : Session) (out : List ℕ) → Sized s.held a → Fits (answered_step a h s out)
unfolding answered_step
answered_fits (Ok x) h s out z = go x.text z
  where
    go : (e : Option Emitted) → IfSome e (λ e. e.length ≡ length (text_held (all_held s.held))) → Fits (text_step e x.length h s out)
    go None z = (refl, omega arith)
    go (Some e) z = (refl, rw z (simp length-append (omega arith)))
answered_fits (Err c) h s out z = (refl, omega arith)

step_fits : (s : Session) (b out : List ℕ) → Fits (step_of s b out)
unfolding step_of
step_fits s b out =
    cond_both (ready s b) _ _ Fits (λ _.
    cond_both (eqb s.at (length b)) _ _ Fits (λ _. (refl, omega arith)) (λ _.
    answered_fits (apply_answer s.held (drop s.at b) text_room) (held_after s.held (drop s.at b)) s out (sized s.held (drop s.at b) text_room)))
    (λ _. (refl, omega arith))

-- of what `step` answered and left in the buffers for the line and the text
pub line_fits : (s : Session) (b out l : List ℕ) {p : Printing} {l' : List ℕ} →
    p ≡ (step_of s b out).answer → l' ≡ line_after (step_of s b out).line l → p.line ≤ length l'
line_fits s b out l e f = let k = (step_fits s b out).0 in rw (e, f) (simp length-append (omega arith))

pub text_fits : (s : Session) (b out : List ℕ) {p : Printing} {out' : List ℕ} →
    p ≡ (step_of s b out).answer → out' ≡ (step_of s b out).text → p.text ≤ length out'
text_fits s b out e g = rw (e, g) (step_fits s b out).1

pub line_taken : (s : Session) (b out l : List ℕ) {p : Printing} {l' : List ℕ} →
    p ≡ (step_of s b out).answer → l' ≡ line_after (step_of s b out).line l → p.line ≡ length (take p.line l')
line_taken s b out l {p} {l'} e f = sym (length-take-le p.line l' (line_fits s b out l e f))

pub text_taken : (s : Session) (b out : List ℕ) {p : Printing} {out' : List ℕ} →
    p ≡ (step_of s b out).answer → out' ≡ (step_of s b out).text → p.text ≡ length (take p.text out')
text_taken s b out {p} {out'} e g = sym (length-take-le p.text out' (text_fits s b out e g))

-- Nothing is given at first; then of a step its line, its text and behind them what is left, each part that is accepted.
module _ {F E : Type 0} {print : Mut F (Bor (List ℕ) × Unit {0}) (Result (Unit {0}) E)} {f : F} {bs : List ℕ} where
  pub gave_none : {rest : List ℕ} → rest ≡ bs → Gave print f bs f rest
  gave_none e = record { parts = []; calls = refl; whole = e }

  pub gave_step : {g : F} {s : Session} {next : Option Session} (b out l : List ℕ) {p : Printing} {l' out' : List ℕ} → Gave print f bs g (left_for next b) →
      next ≡ Some s → Within b next → p ≡ (step_of s b out).answer → l' ≡ line_after (step_of s b out).line l → out' ≡ (step_of s b out).text →
      Gave print f bs g (take p.line l' ++ (take p.text out' ++ left_for p.next b))
  gave_step {g = g} {s = s} b out l k n w i j m =
      let t = step_of s b out in
      let v = rw n at w in
      let u = rw n at k in
      rw (i, j, m, take_at t.line (drop (length t.line) l) t.answer.line (sym (step_fits s b out).0)) (rw (left_step s b out v.0 v.1) at u)

  pub gave_more : {g h : F} {part : Bor (List ℕ)} {rest : List ℕ} → Called print g (part, tt) (Ok tt) h → Gave print f bs g (part.now ++ rest) →
      Gave print f bs h rest
  gave_more {g} {h} {part} {rest} c k =
      record {
        parts = k.parts ++ (part.now ∷ []);
        calls = FoldsTo-push _ f k.parts g part.now h k.calls (called_at print c refl);
        whole = rw (concat-append k.parts (part.now ∷ []), append-nil part.now, append_assoc (concat k.parts) part.now rest) k.whole;
      }

  pub refused_as : {g : F} {e : E} (r : Result (Unit {0}) E) → Refused print f bs e g → IsErrAnd r (λ y. y ≡ e) →
      IfErr r (λ e. Refused print f bs e g)
  refused_as r k i = let p = err_from_is_err_and r i in rw (p.1, p.2) k

-- a part that the closure accepts, of any calls before it
pub part_accepted : {F E : Type 0} {print : Mut F (Bor (List ℕ) × Unit {0}) (Result (Unit {0}) E)} {g h : F} {part : Bor (List ℕ)} (r : Result (Unit {0}) E) →
    Called print g (part, tt) r h → OnOk r (Accepts print g part.now h)
part_accepted (Ok tt) c = λ f bs rest k. gave_more c k
part_accepted (Err e) c = tt

pub ruleset turn = (line_fits, text_fits, line_taken, text_taken, less_left, begun_within, begun_left, gave_none)

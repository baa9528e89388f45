-- The steps of a session, one behind another, print what the program is to print.
use mathlib.Core.Path.{◌≡◌, refl, sym, ap, ◌∙◌}
use mathlib.Core.Bool.{Bool, true, false, cond}
use mathlib.Core.List.{List, [], ◌∷◌, ◌++◌, append-nil}
use Prim.Native.Nat.{ℕ, zero, suc, ◌+◌, ◌-◌, ◌≤◌, ◌<◌}
use native.Mathlib.Omega.{arith}
use borrow.Author.Tests.{le-leb, le-ltb, ne_eqb, eqb-true, eqb-false}
use lib.Dec.{eqb}
use lib.ListN.{length, take, drop, length-drop}
use lib.Seq.{drop-drop, take_at}
use Rattle.std.specs.Prelude.{Option, Some, None, IfSome, Result, Ok, Err}
use Rattle.std.proofs.lemmas.Bool.{cond_both}
use Rattle.values.specs.declared.Emitted.{Emitted}
use Rattle.values.specs.declared.Refusal.{Refusal}
use Rattle.records.specs.Applying.{all_held, text_held, apply_answer, held_after}
use Rattle.records.specs.declared.Held.{Held}
use Rattle.records.specs.declared.Applied.{Applied}
use Rattle.printout.specs.Program.{input_room, text_room, end_line, text_printed, printed, printed_from, records_output, program_output}
use Rattle.printout.specs.Steps.{Step, begun, onwards, last_step, text_step, answered_step, record_step, ready, step_of}
use Rattle.printout.specs.declared.Session.{Session}
use Rattle.printout.specs.declared.Printing.{Printing}
use Rattle.printout.proofs.Taking.{Takes, takes, Sized, sized}

-- The next session, if there is one, stands further on in the input, and counts no more texts than bytes.
abbrev Onward : Session → List ℕ → Option Session → Type 0
Onward s b next = IfSome next (λ n. (s.at < n.at) × ((n.at ≤ length b) × (s.texts ≤ s.at → n.texts ≤ n.at)))

answered_onward : (a : Result Applied Refusal) (h : Held) (s : Session) (b out : List ℕ) → Takes (length (drop s.at b)) a →
    Onward s b (answered_step a h s out).answer.next
unfolding answered_step
answered_onward (Ok x) h s b out t = go x.text t.0 (simp length-drop at t.1)
  where
    go : {m : ℕ} (e : Option Emitted) → 1 ≤ m → m ≤ length b - s.at → Onward s b (text_step e m h s out).answer.next
    go None k l = (omega arith, (omega arith, λ q. omega arith))
    go (Some e) k l = (omega arith, (omega arith, λ q. omega arith))
answered_onward (Err c) h s b out t = tt

onward : (s : Session) (b out : List ℕ) → Onward s b (step_of s b out).answer.next
unfolding step_of
onward s b out =
    let On : Step → Type 0 = λ t. Onward s b t.answer.next in
    cond_both (ready s b) _ _ On (λ _.
    cond_both (eqb s.at (length b)) _ _ On (λ _. tt) (λ _.
    answered_onward (apply_answer s.held (drop s.at b) text_room) (held_after s.held (drop s.at b)) s b out (takes s.held (drop s.at b) text_room)))
    (λ _. tt)

-- The same of what `step` answered: what is left of the input grows less, and nothing is left where no session is next.
abbrev pub still_left : Option Session → List ℕ → ℕ
still_left None b = 0
still_left (Some s) b = suc (length b - s.at)

pub less_left : (s : Session) (b out : List ℕ) {p : Printing} → p ≡ (step_of s b out).answer → still_left p.next b < still_left (Some s) b
less_left s b out e = rw e (go (step_of s b out).answer.next (onward s b out))
  where
    go : (next : Option Session) → Onward s b next → still_left next b < still_left (Some s) b
    go None o = omega arith
    go (Some n) o = omega (arith, o.0, o.1.0)

-- what is still to be printed for the input b
unfoldable pub left : Session → List ℕ → List ℕ
left s b = printed_from (length b - s.at) s.at s.texts s.held (drop s.at b)

abbrev pub left_for : Option Session → List ℕ → List ℕ
left_for None b = []
left_for (Some s) b = left s b

text_same : (e : Option Emitted) (h : Held) (f g : ℕ → List ℕ) → ((more : ℕ) → f more ≡ g more) → text_printed e h f ≡ text_printed e h g
text_same None h f g k = k 0
text_same (Some e) h f g k = rw (k 1)

printed_same : (a : Result Applied Refusal) (l p : ℕ) (h : Held) (f g : ℕ → ℕ → List ℕ) → Takes l a → ((m more : ℕ) → 1 ≤ m → f m more ≡ g m more) →
    printed a p h f ≡ printed a p h g
unfolding printed
printed_same (Ok x) l p h f g t k = text_same x.text h _ _ (λ more. k x.length more t.0)
printed_same (Err c) l p h f g t k = refl

-- as many turns as bytes are enough
turns : (t u p n : ℕ) (h : Held) (b : List ℕ) → length b ≤ t → length b ≤ u → printed_from t p n h b ≡ printed_from u p n h b
unfolding printed_from
turns zero zero p n h b k l = refl
turns zero (suc u) p n h [] k l = refl
turns zero (suc u) p n h (x ∷ b) k l = absurd (omega arith)
turns (suc t) zero p n h [] k l = refl
turns (suc t) zero p n h (x ∷ b) k l = absurd (omega arith)
turns (suc t) (suc u) p n h [] k l = refl
turns (suc t) (suc u) p n h (x ∷ b) k l =
    rw (ne_eqb (suc (length b)) 0 (λ e. omega arith))
    (printed_same (apply_answer h (x ∷ b) text_room) (length (x ∷ b)) p h _ _ (takes h (x ∷ b) text_room)
    (λ m more q.
    turns t u (p + m) (n + more) (held_after h (x ∷ b)) (drop m (x ∷ b)) (simp length-drop (omega arith)) (simp length-drop (omega arith))))

turn : (t p n : ℕ) (h : Held) (b : List ℕ) → 0 < length b →
    printed_from (suc t) p n h b
    ≡ printed (apply_answer h b text_room) p h (λ m more. printed_from t (p + m) (n + more) (held_after h b) (drop m b))
unfolding printed_from
turn t p n h [] k = absurd (omega arith)
turn t p n h (x ∷ b) k = rw (ne_eqb (suc (length b)) 0 (λ e. omega arith))

left_turn : (s : Session) (b : List ℕ) → s.at < length b →
    left s b
    ≡ printed (apply_answer s.held (drop s.at b) text_room) s.at s.held (λ m more. left (onwards s m more (held_after s.held (drop s.at b))) b)
unfolding left
left_turn s b k =
    let rest = drop s.at b in
    let h = held_after s.held rest in
    turns (length b - s.at) (suc (length b)) s.at s.texts s.held rest (simp length-drop (omega arith)) (simp length-drop (omega arith))
    ∙ turn (length b) s.at s.texts s.held rest (simp length-drop (omega arith))
    ∙ printed_same (apply_answer s.held rest text_room) (length rest) s.at s.held _ _ (takes s.held rest text_room)
    (λ m more q.
    rw (drop-drop m s.at b)
    (turns (length b) (length b - (s.at + m)) (s.at + m) (s.texts + more) h (drop (s.at + m) b)
    (simp length-drop (omega arith)) (simp length-drop (omega arith))))

left_end : (s : Session) (b : List ℕ) → length b ≤ s.at → left s b ≡ end_line s.texts
unfolding left printed_from
left_end s b k = let e : length b - s.at ≡ 0 = omega arith in rw e

-- what a step prints, and behind it the rest
abbrev prints : Step → List ℕ → List ℕ
prints t rest = t.line ++ (take t.answer.text t.text ++ rest)

answered_left : (a : Result Applied Refusal) (h : Held) (s : Session) (b out : List ℕ) → Sized s.held a →
    printed a s.at s.held (λ m more. left (onwards s m more h) b) ≡ prints (answered_step a h s out) (left_for (answered_step a h s out).answer.next b)
unfolding printed answered_step
answered_left (Ok x) h s b out z = go x.text z
  where
    go : (e : Option Emitted) → IfSome e (λ e. e.length ≡ length (text_held (all_held s.held))) →
        text_printed e s.held (λ more. left (onwards s x.length more h) b)
        ≡ prints (text_step e x.length h s out) (left_for (text_step e x.length h s out).answer.next b)
    go None z = refl
    go (Some e) z = rw (take_at (text_held (all_held s.held)) _ e.length (sym z))
answered_left (Err c) h s b out z = sym (append-nil _)

pub left_step : (s : Session) (b out : List ℕ) → s.at ≤ length b → s.texts ≤ s.at
    → left s b ≡ prints (step_of s b out) (left_for (step_of s b out).answer.next b)
unfolding step_of
left_step s b out w t = rw (le-leb _ _ w, le-leb _ _ t) (go (eqb s.at (length b)) refl)
  where
    strict : (s.at ≡ length b → ⊥) → s.at < length b
    strict k = omega arith

    at_place : Bool → Step
    at_place e = cond e (last_step (end_line s.texts) out) (record_step s b out)

    go : (e : Bool) → eqb s.at (length b) ≡ e → left s b ≡ prints (at_place e) (left_for (at_place e).answer.next b)
    go true q = let k = eqb-true _ _ q in left_end s b (omega arith) ∙ sym (append-nil _)
    go false q =
        let rest = drop s.at b in
        left_turn s b (strict (eqb-false _ _ q))
        ∙ answered_left (apply_answer s.held rest text_room) (held_after s.held rest) s b out (sized s.held rest text_room)

-- what the steps from a session on print, n of them at most, each into the buffer as the one before left it
unfoldable pub printed_by : ℕ → Option Session → List ℕ → List ℕ → List ℕ
printed_by zero next b out = []
printed_by (suc n) None b out = []
printed_by (suc n) (Some s) b out = prints (step_of s b out) (printed_by n (step_of s b out).answer.next b (step_of s b out).text)

-- A session that can belong to the input: the one at the beginning, and the next one of each.
abbrev pub Within : List ℕ → Option Session → Type 0
Within b next = IfSome next (λ s. (s.at ≤ length b) × (s.texts ≤ s.at))

pub begun_within : (b : List ℕ) {s : Session} → s ≡ begun → Within b (Some s)
begun_within b e = rw e (omega arith, omega arith)

pub step_within : {s : Session} {next : Option Session} (b out : List ℕ) {p : Printing} → next ≡ Some s → Within b next →
    p ≡ (step_of s b out).answer → Within b p.next
step_within {s = s} b out n w e = let v = rw n at w in rw e (go (step_of s b out).answer.next v.1 (onward s b out))
  where
    go : (next : Option Session) → s.texts ≤ s.at → Onward s b next → Within b next
    go None t o = tt
    go (Some n) t o = (o.1.0, o.1.1 t)

-- as many steps as there are bytes left, and one more, are enough
steps_left : (n : ℕ) (b : List ℕ) (next : Option Session) (out : List ℕ) → Within b next → still_left next b ≤ n → printed_by n next b out ≡ left_for next b
unfolding printed_by
steps_left zero b None out w k = refl
steps_left zero b (Some s) out w k = absurd (omega arith)
steps_left (suc n) b None out w k = refl
steps_left (suc n) b (Some s) out w k =
    let t = step_of s b out in
    let less = less_left s b out {p = t.answer} refl in
    ap (prints t) (steps_left n b t.answer.next t.text (step_within b out {p = t.answer} refl w refl) (omega arith))
    ∙ sym (left_step s b out w.0 w.1)

pub begun_left : (b : List ℕ) {s : Session} → s ≡ begun → left s b ≡ records_output b
unfolding left
begun_left b e = rw e (turns (length b - 0) (length b) 0 0 _ b (omega arith) (omega arith))

-- The steps from the beginning on print the program's output, for an input that its buffer takes.
pub program : (b out : List ℕ) → length b ≤ input_room → printed_by (suc (length b)) (Some begun) b out ≡ program_output b
unfolding program_output
program b out h =
    steps_left (suc (length b)) b (Some begun) out (begun_within b refl) (omega arith) ∙ begun_left b refl ∙ rw (le-ltb input_room (length b) h)

-- What applying a record takes, a byte at least and no more than there are; and the length of text that it reports.
use mathlib.Core.Path.{◌≡◌, sym, ◌∙◌}
use mathlib.Core.List.{List}
use Prim.Native.Nat.{ℕ, ◌+◌, ◌-◌, ◌^◌, ◌≤◌, ◌<◌}
use native.Mathlib.Omega.{arith}
use lib.ListN.{length, take, drop, length-drop}
use Rattle.std.specs.Prelude.{IfSome, Result, Ok, IfOk}
use Rattle.std.proofs.lemmas.List.{length-take-le}
use Rattle.values.specs.declared.Refusal.{Refusal}
use Rattle.records.specs.Applying.{all_held, text_held, apply_answer}
use Rattle.records.specs.declared.Held.{Held}
use Rattle.records.specs.declared.Applied.{Applied}
use Rattle.records.proofs.Answers.{apply_cases}
use Rattle.printout.specs.declared.Session.{Session}

abbrev pub Takes : ℕ → Result Applied Refusal → Type 0
Takes l a = IfOk a (λ x. (1 ≤ x.length) × (x.length ≤ l))

pub takes : (h : Held) (b : List ℕ) (room : ℕ) → Takes (length b) (apply_answer h b room)
takes h b room =
    apply_cases (Takes (length b)) h b room
    (record { refusal = λ c n. tt; value = λ r t n. (omega arith, t.within); text = λ x e w n. (omega arith, w) })

abbrev pub Sized : Held → Result Applied Refusal → Type 0
Sized h a = IfOk a (λ x. IfSome x.text (λ e. e.length ≡ length (text_held (all_held h))))

pub sized : (h : Held) (b : List ℕ) (room : ℕ) → Sized h (apply_answer h b room)
sized h b room = apply_cases (Sized h) h b room (record { refusal = λ c n. tt; value = λ r t n. tt; text = λ x e w n. rw e })

-- So the place behind the record where a session stands fits its number.
pub applied_fits : (s : Session) (b : List ℕ) (room : ℕ) {a : Result Applied Refusal} (x : Applied) →
    a ≡ apply_answer s.held (take (length b - s.at) (drop s.at b)) room → a ≡ Ok x → s.at < length b → length b < 2 ^ 64 → s.at + x.length < 2 ^ 64
applied_fits s b room x e f w k =
    let n = length b - s.at in
    let t = rw (sym e ∙ f) at (takes s.held (take n (drop s.at b)) room) in
    omega (arith, t.1, length-take-le n (drop s.at b) (simp length-drop (omega arith)))

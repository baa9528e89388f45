-- A session: what the program prints, a record at a time.
-- 01: "the program stops with `end` when its input is used up."
use Rattle.std.specs.Prelude.{ℕ, ◌+◌, Bool, ◌&&◌, cond, List, [], eqb, leb, length, drop, Option, Some, None, Result, Ok, Err}
use Rattle.values.specs.declared.Emitted.{Emitted}
use Rattle.values.specs.declared.Refusal.{Refusal}
use Rattle.records.specs.Applying.{nothing_held, all_held, text_in, apply_answer, held_after}
use Rattle.records.specs.declared.Held.{Held}
use Rattle.records.specs.declared.Applied.{Applied}
use Rattle.printout.specs.Program.{text_room, emit_line, end_line, refused_line}
use Rattle.printout.specs.declared.Session.{Session}
use Rattle.printout.specs.declared.Printing.{Printing}

abbrev pub begun : Session
begun = record { at = 0; texts = 0; held = nothing_held }

-- behind a record that took m bytes, with so many texts more, h being held
abbrev pub onwards : Session → ℕ → ℕ → Held → Session
onwards s m more h = record { at = s.at + m; texts = s.texts + more; held = h }

abbrev pub stepped : ℕ → ℕ → Option Session → Printing
stepped n m next = record { line = n; text = m; next = next }

-- what a step answers, the line that it prints, and what it leaves in the buffer for text
pub record Step : Type 0 where
  pub answer : Printing
  pub line : List ℕ
  pub text : List ℕ

-- the last step prints a line, and no text
abbrev pub last_step : List ℕ → List ℕ → Step
last_step line out = record { answer = stepped (length line) 0 None; line = line; text = out }

-- by what is reported of the text of an accepted record of m bytes, if it wrote one, h being held then
abbrev pub text_step : Option Emitted → ℕ → Held → Session → List ℕ → Step
text_step None m h s out = record { answer = stepped 0 0 (Some (onwards s m 0 h)); line = []; text = out }
text_step (Some e) m h s out =
    record {
      answer = stepped (length (emit_line e)) e.length (Some (onwards s m 1 h));
      line = emit_line e;
      text = text_in (all_held s.held) out;
    }

-- by the answer to the record where the session stands
unfoldable pub answered_step : Result Applied Refusal → Held → Session → List ℕ → Step
answered_step (Ok x) h s out = text_step x.text x.length h s out
answered_step (Err c) h s out = last_step (refused_line c s.at) out

-- by the record where the session stands
abbrev pub record_step : Session → List ℕ → List ℕ → Step
record_step s b out = answered_step (apply_answer s.held (drop s.at b) text_room) (held_after s.held (drop s.at b)) s out

-- A session whose offset lies beyond the input, or that counts more texts than bytes read, cannot belong to this input.
abbrev pub ready : Session → List ℕ → Bool
ready s b = leb s.at (length b) && leb s.texts s.at

-- a session that cannot belong to the input b prints nothing, and all is left
unfoldable pub step_of : Session → List ℕ → List ℕ → Step
step_of s b out =
    cond (ready s b) (cond (eqb s.at (length b)) (last_step (end_line s.texts) out) (record_step s b out)) (last_step [] out)

-- What the program prints for an input.
use Rattle.std.specs.Prelude.{ℕ, zero, suc, ◌+◌, cond, List, [], ◌∷◌, ◌++◌, eqb, ltb, length, drop, Option, Some, None, Result, Ok, Err}
use Rattle.text.specs.Text.{Text, flat, lit, pick, decimal}
use Rattle.text.specs.Format.{format, ◌≔◌}
use Rattle.values.specs.declared.Emitted.{Emitted}
use Rattle.values.specs.Refusals.{number_of}
use Rattle.values.specs.declared.Refusal.{Refusal}
use Rattle.values.specs.declared.Refusal.TheVariants.{InputTooLong}
use Rattle.records.specs.Applying.{nothing_held, all_held, text_held, apply_answer, held_after}
use Rattle.records.specs.declared.Held.{Held}
use Rattle.records.specs.declared.Applied.{Applied}

-- 01: "Program `ffps` reads standard input into a buffer of 32,768 bytes and has one of 16,384 for text."
abbrev pub input_room : ℕ
input_room = 32768

abbrev pub text_room : ℕ
text_room = 16384

-- 02: "prints these four, decimal, yes as 1 and no as 0, in place of the sum"
abbrev pub warnings_text : Emitted → Text
warnings_text e =
    format "{op} {selector} {modifier} {alpha}"
    (("op" ≔ decimal e.warnings.op)
    ∷ ("selector" ≔ decimal e.warnings.selector)
    ∷ ("modifier" ≔ decimal e.warnings.modifier)
    ∷ ("alpha" ≔ pick e.alpha_warning (lit "1") (lit "0"))
    ∷ [])

-- 01: "`emit` fields, decimal: mask, rows, lookups, warning."
abbrev pub emit_text : Emitted → Text
emit_text e =
    format "emit {mask} {rows} {lookups} {warnings}\n"
    (("mask" ≔ decimal e.mask) ∷ ("rows" ≔ decimal e.rows) ∷ ("lookups" ≔ decimal e.lookups) ∷ ("warnings" ≔ warnings_text e) ∷ [])

unfoldable pub emit_line : Emitted → List ℕ
emit_line e = flat (emit_text e)

-- 01: "`end` counts texts."
abbrev pub end_text : ℕ → Text
end_text n = format "end {n}\n" (("n" ≔ decimal n) ∷ [])

unfoldable pub end_line : ℕ → List ℕ
end_line n = flat (end_text n)

-- 01: "The program's last line is then `refused N at P`, P the offset of the kind byte, 32768 for 9; no `end`."
abbrev pub refused_text : Refusal → ℕ → Text
refused_text c p = format "refused {n} at {p}\n" (("n" ≔ decimal (number_of c)) ∷ ("p" ≔ decimal p) ∷ [])

unfoldable pub refused_line : Refusal → ℕ → List ℕ
refused_line c p = flat (refused_text c p)

-- a line at the front of its buffer; the bytes behind it stay
abbrev pub line_after : List ℕ → List ℕ → List ℕ
line_after line out = line ++ drop (length line) out

-- what is printed for the text of an accepted record, if it wrote one, h being held, and behind it what follows so many texts more
abbrev pub text_printed : Option Emitted → Held → (ℕ → List ℕ) → List ℕ
text_printed None h go_on = go_on 0
text_printed (Some e) h go_on = emit_line e ++ (text_held (all_held h) ++ go_on 1)

-- what is printed for the answer to the record at offset p, h being held: go on m bytes further, with so many texts more, or stop
unfoldable pub printed : Result Applied Refusal → ℕ → Held → (ℕ → ℕ → List ℕ) → List ℕ
printed (Ok x) p h go_on = text_printed x.text h (go_on x.length)
printed (Err c) p h go_on = refused_line c p

-- What is printed for the bytes b from offset p on, behind n texts. 01: "the program stops with `end` when its input is used up." Each record
-- takes a byte at least, so there are as many turns as bytes, or more.
unfoldable pub printed_from : ℕ → ℕ → ℕ → Held → List ℕ → List ℕ
printed_from zero p n h b = end_line n
printed_from (suc turns) p n h b =
    cond (eqb (length b) 0) (end_line n)
    (printed (apply_answer h b text_room) p h (λ m more. printed_from turns (p + m) (n + more) (held_after h b) (drop m b)))

-- for the records of an input, from its first byte on
abbrev pub records_output : List ℕ → List ℕ
records_output input = printed_from (length input) 0 0 nothing_held input

-- 9: "program input above 32,768 bytes": "the line", "no record read"
unfoldable pub program_output : List ℕ → List ℕ
program_output input = cond (ltb input_room (length input)) (refused_line InputTooLong input_room) (records_output input)

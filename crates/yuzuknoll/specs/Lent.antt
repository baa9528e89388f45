-- What a call leaves in the bytes and numbers that it is lent, and the numbers that it reports.
use Rattle.std.specs.Prelude.{ℕ, cond, List, [], ◌∷◌, ◌++◌, eqb, length, take, drop, get_or}
use Rattle.values.specs.declared.Key.{Key}
use Rattle.values.specs.declared.Emitted.{Emitted}
use Rattle.shader.specs.Demand.{Demands}
use Rattle.wire.specs.Bodies.{kind_byte, record_length}
use Rattle.wire.specs.declared.Kind.{Kind}

-- A call that answers 0 has written. One that answers a refusal's number has left "every lent byte" as it was before the call.
abbrev pub after : ℕ → List ℕ → List ℕ → List ℕ
after number written before = cond (eqb number 0) written before

-- the first of two numbers that is not 0
abbrev pub first_of : ℕ → ℕ → ℕ
first_of a b = cond (eqb a 0) b a

-- bytes that begin a buffer; those behind them stay
abbrev pub at_front : List ℕ → List ℕ → List ℕ
at_front bytes out = bytes ++ drop (length bytes) out

-- a record's kind, and how many bytes it has
abbrev pub record_numbers : Kind → List ℕ
record_numbers k = kind_byte k ∷ record_length k ∷ []

-- a result as eight numbers, yes as 1 and no as 0
abbrev pub result_numbers : Emitted → List ℕ
result_numbers m =
    m.length
    ∷ m.mask
    ∷ m.rows
    ∷ m.lookups
    ∷ m.warnings.op
    ∷ m.warnings.selector
    ∷ m.warnings.modifier
    ∷ cond m.alpha_warning 1 0
    ∷ []

-- the result that eight numbers report
abbrev pub result_of : List ℕ → Emitted
result_of l =
    record {
      length = get_or l 0 0;
      mask = get_or l 1 0;
      rows = get_or l 2 0;
      lookups = get_or l 3 0;
      warnings = record { op = get_or l 4 0; selector = get_or l 5 0; modifier = get_or l 6 0 };
      alpha_warning = eqb (get_or l 7 0) 1;
    }

-- what is demanded of the names of a key's text, said of the buffer that the text begins and of the eight numbers
abbrev pub ReportedDemands : Key → List ℕ → List ℕ → Type 0
ReportedDemands key out l = Demands key (take (get_or l 0 0) out) (result_of l)

-- Reading the record at the front of some bytes, and its refusals 1 to 6 and 10 to 13.
-- 01: "Reading a record is a call without held values"
use Rattle.std.specs.Prelude.{ℕ, Bool, true, false, cond, List, [], ◌∷◌, eqb, ltb, length, Result, Ok, Err}
use Rattle.values.specs.Refusals.{number_of}
use Rattle.values.specs.Flags.{stage_flags_bad, variant_flags_bad}
use Rattle.values.specs.Entries.{entry_good}
use Rattle.values.specs.Words.{entry_reserved}
use Rattle.values.specs.declared.Refusal.{Refusal}
use Rattle.values.specs.declared.Refusal.TheVariants.{CutShort, UnknownKind, SpecularAdd}
use Rattle.states.specs.Writes.{state_write_number}
use Rattle.values.specs.Steps.{◌>>=◌}
use Rattle.wire.specs.Bodies.{kind_byte, kind_of, body_length, record_length, specular_byte, key_from_body, variant_from_body, entry_from_body}
use Rattle.wire.specs.Bodies.{state_from_body, record_from_body}
use Rattle.wire.specs.Causes.{checked_record}
use Rattle.wire.specs.declared.Kind.{Kind}
use Rattle.wire.specs.declared.Kind.TheVariants as kind
use Rattle.wire.specs.declared.Record.{Record}
use Rattle.wire.specs.declared.Reading.{Reading}

-- the kind that a kind byte names. 2: "kind not 1 to 4", and not 5 or 6
abbrev pub kind_from : ℕ → Result Kind Refusal
kind_from n =
    cond (eqb n (kind_byte kind.Key)) (Ok kind.Key)
    (cond (eqb n (kind_byte kind.Variant)) (Ok kind.Variant)
    (cond (eqb n (kind_byte kind.Entry)) (Ok kind.Entry)
    (cond (eqb n (kind_byte kind.Emit)) (Ok kind.Emit)
    (cond (eqb n (kind_byte kind.State)) (Ok kind.State) (cond (eqb n (kind_byte kind.WideKey)) (Ok kind.WideKey) (Err UnknownKind))))))

-- What is found.

-- a record, with how many bytes it took
abbrev pub took : Record → Result Reading Refusal
took r = Ok (record { «record» = r; length = record_length (kind_of r) })

-- specular add in the body of a key of either kind; the others have none
abbrev pub specular_in : Kind → List ℕ → ℕ
specular_in kind.Key b = specular_byte false b
specular_in kind.Variant b = 0
specular_in kind.Entry b = 0
specular_in kind.Emit b = 0
specular_in kind.State b = 0
specular_in kind.WideKey b = specular_byte true b

-- the causes of the value that the body stands for, and behind them 4, "specular above 1". 02, Nine: "Flags and specular are checked as for kind 1"
unfoldable pub read_body : Kind → List ℕ → Result Reading Refusal
read_body k b = do
  _ ← checked_record (record_from_body k b)
  cond (ltb 1 (specular_in k b)) (Err SpecularAdd) (took (record_from_body k b))

-- 1: "body cut short"
unfoldable pub read_as : Kind → List ℕ → Result Reading Refusal
read_as k b = cond (ltb (length b) (body_length k)) (Err CutShort) (read_body k b)

-- 1: "no byte". 01: "Kind comes before length, length before the body's causes, 3 before 4."
unfoldable pub read_record : List ℕ → Result Reading Refusal
read_record [] = Err CutShort
read_record (n ∷ b) = do
  k ← kind_from n
  read_as k b

-- The numbers of 01's table: 0 for a record at the front of some bytes.

-- 3 before 4 of a key
abbrev pub key_number : Bool → List ℕ → ℕ
key_number wide b = cond (stage_flags_bad (key_from_body wide b).stages) 3 (cond (ltb 1 (specular_byte wide b)) 4 0)

-- 5 of a variant; 6 before 13 of an entry; 10, 11 and 12 of a state write, in that order (states/specs/Writes)
unfoldable pub body_number : Kind → List ℕ → ℕ
body_number kind.Key b = key_number false b
body_number kind.Variant b = cond (variant_flags_bad (variant_from_body b)) 5 0
body_number kind.Entry b = cond (entry_good (entry_from_body b)) (cond (entry_reserved (entry_from_body b)) 13 0) 6
body_number kind.Emit b = 0
body_number kind.State b = state_write_number (state_from_body b)
body_number kind.WideKey b = key_number true b

-- 1: "body cut short", before the body's causes
abbrev pub number_as : Kind → List ℕ → ℕ
number_as k b = cond (ltb (length b) (body_length k)) 1 (body_number k b)

-- the number of a kind that a byte names, or of the refusal of one that names none
abbrev pub number_by : Result Kind Refusal → (Kind → ℕ) → ℕ
number_by (Ok k) number = number k
number_by (Err c) number = number_of c

unfoldable pub record_number : List ℕ → ℕ
record_number [] = 1
record_number (n ∷ b) = number_by (kind_from n) (λ k. number_as k b)

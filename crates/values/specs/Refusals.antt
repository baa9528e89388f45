-- Why a call is refused: the numbers of 01's table, and those that the requests of 02 add.
use Rattle.std.specs.Prelude.{ℕ, Result, Ok, Err}
use Rattle.values.specs.declared.Refusal.{Refusal}
use Rattle.values.specs.declared.Refusal.TheVariants.{CutShort, UnknownKind, StageFlags, SpecularAdd, VariantFlags, EntryName, EmitTooEarly, NoRoom, InputTooLong, ReservedWord, StageNumber, StateType, StateValue}

-- 1 "no byte, or body cut short", 2 "kind not 1 to 4" (02: "Kind 5 leaves 2"), 3 "a stage flag bit 2 to 7", 4 "specular above 1", 5 "variant flag bit
-- 6 or 7", 6 what is wrong with an entry, 7 "emit before key, variant and entry", 8 "text longer than the buffer", or for the writer the record, 9
-- "program input above 32,768 bytes"; 02: "10, stage above 7; 11, another type; 12, value above 255 or, for types 28 and 0, none of those named"; 13, an
-- entry that is a reserved word
abbrev pub number_of : Refusal → ℕ
number_of CutShort = 1
number_of UnknownKind = 2
number_of StageFlags = 3
number_of SpecularAdd = 4
number_of VariantFlags = 5
number_of EntryName = 6
number_of EmitTooEarly = 7
number_of NoRoom = 8
number_of InputTooLong = 9
number_of ReservedWord = 13
number_of StageNumber = 10
number_of StateType = 11
number_of StateValue = 12

-- the number of what a call answers: 0 where it accepts
abbrev pub answer_number : {A : Type 0} → Result A Refusal → ℕ
answer_number (Ok x) = 0
answer_number (Err c) = number_of c

-- Writing a record at the front of a lent buffer, and its refusals: 3, 5, 6, 13, 10, 11 and 12 of its value, then 8.
use Rattle.std.specs.Prelude.{ℕ, cond, List, ◌++◌, ltb, length, drop, Result, Ok, Err}
use Rattle.values.specs.Flags.{stage_flags_bad, variant_flags_bad}
use Rattle.values.specs.Entries.{entry_good}
use Rattle.values.specs.Words.{entry_reserved}
use Rattle.values.specs.declared.Refusal.{Refusal}
use Rattle.values.specs.declared.Refusal.TheVariants.{NoRoom}
use Rattle.states.specs.Writes.{accepted, state_write_number}
use Rattle.values.specs.Steps.{◌>>=◌}
use Rattle.wire.specs.Bodies.{kind_of, record_length}
use Rattle.wire.specs.Causes.{checked_record}
use Rattle.wire.specs.declared.Record.{Record}
use Rattle.wire.specs.declared.Record.TheVariants as rec

-- 8: "for the writer 8 is a buffer shorter than the record"; room is the buffer's length, and what is answered how many bytes were written
abbrev pub write_into : ℕ → Record → Result ℕ Refusal
write_into room r = cond (ltb room (record_length (kind_of r))) (Err NoRoom) (Ok (record_length (kind_of r)))

-- 01: "the writer of a record, check 3, 5, 6 and 8 in that order"; 02, One: 10, 11 and 12 "in the writer before 8". Specular "is a yes or no there, so
-- 4 cannot occur".
abbrev pub write_answer : Record → ℕ → Result ℕ Refusal
write_answer r room = do
  _ ← checked_record r
  write_into room r

-- "and bytes behind the record stay". A refusal leaves all.
abbrev pub after_writing : Result ℕ Refusal → List ℕ → List ℕ → List ℕ
after_writing (Err c) bytes out = out
after_writing (Ok n) bytes out = bytes ++ drop (length bytes) out

-- The numbers of 01's table, of a record and a buffer's length: 0 for a record that can be written there.

-- 3, 5, 6, 13, or 10 to 12, of a record's own value, else the number without them
unfoldable pub value_number : Record → ℕ → ℕ
value_number (rec.Key k) other = cond (stage_flags_bad k.stages) 3 other
value_number (rec.Variant v) other = cond (variant_flags_bad v) 5 other
value_number (rec.Entry e) other = cond (entry_good e) (cond (entry_reserved e) 13 other) 6
value_number rec.Emit other = other
value_number (rec.State w) other = cond (accepted w) other (state_write_number w)
value_number (rec.WideKey k) other = cond (stage_flags_bad k.stages) 3 other

abbrev pub written_number : Record → ℕ → ℕ
written_number r room = value_number r (cond (ltb room (record_length (kind_of r))) 8 0)

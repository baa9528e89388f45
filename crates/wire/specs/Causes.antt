-- What a record's value is refused for, by the reader and the writer: 3, 5, 6 before 13 (values/specs/Checks), and 10, 11 and 12 of a state write
-- (states/specs/Writes).
use Rattle.std.specs.Prelude.{Result, Ok}
use Rattle.values.specs.Checks.{checked_key, checked_variant, checked_entry}
use Rattle.values.specs.declared.Refusal.{Refusal}
use Rattle.states.specs.Writes.{checked_write}
use Rattle.wire.specs.declared.Record.{Record}
use Rattle.wire.specs.declared.Record.TheVariants as rec

abbrev pub checked_record : Record → Result (Unit {0}) Refusal
checked_record (rec.Key k) = checked_key k
checked_record (rec.Variant v) = checked_variant v
checked_record (rec.Entry e) = checked_entry e
checked_record rec.Emit = Ok tt
checked_record (rec.State w) = checked_write w
checked_record (rec.WideKey k) = checked_key k

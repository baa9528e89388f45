-- The record at the front of some bytes, read and written: what yuzuknoll_read and yuzuknoll_write answer, write and report.
use Rattle.std.specs.Prelude.{ℕ, List, Result, Ok, Err}
use Rattle.values.specs.declared.Refusal.{Refusal}
use Rattle.wire.specs.Bodies.{kind_of, record_bytes}
use Rattle.wire.specs.Reading.{read_record, record_number}
use Rattle.wire.specs.Writing.{written_number}
use Rattle.wire.specs.declared.Kind.{Kind}
use Rattle.wire.specs.declared.Record.{Record}
use Rattle.wire.specs.declared.Record.TheVariants as rec
use Rattle.wire.specs.declared.Reading.{Reading}
use Rattle.yuzuknoll.specs.Lent.{first_of}

-- the record that was read. Where there is none, the call answers a refusal, which reports and writes nothing.
abbrev pub found : Result Reading Refusal → Record
found (Ok x) = x.«record»
found (Err c) = rec.Emit

-- the kind of the record, and its bytes as the writer writes them
abbrev pub kind_in : List ℕ → Kind
kind_in b = kind_of (found (read_record b))

abbrev pub bytes_in : List ℕ → List ℕ
bytes_in b = record_bytes (found (read_record b))

-- the reader's number, then the writer's. room is the length of the buffer.
abbrev pub copy_number : List ℕ → ℕ → ℕ
copy_number b room = first_of (record_number b) (written_number (found (read_record b)) room)

-- The kind of the record that was read.
use Rattle.std.specs.Prelude.{Result, Ok, Err}
use Rattle.values.specs.declared.Refusal.{Refusal}
use Rattle.wire.specs.Bodies.{kind_of}
use Rattle.wire.specs.declared.Kind.{Kind}
use Rattle.wire.specs.declared.Reading.{Reading}

abbrev pub kind_read : Result Reading Refusal → Result Kind Refusal
kind_read (Ok x) = Ok (kind_of x.record)
kind_read (Err c) = Err c

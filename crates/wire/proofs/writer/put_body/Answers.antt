-- The body of each kind is as long as its kind says.
use Rattle.std.proofs.Common.{◌≡◌, length, rules}
use Rattle.wire.specs.Bodies.{kind_of, body_length, body_bytes}
use Rattle.wire.specs.declared.Record.{Record}
use Rattle.wire.proofs.Bodies.{Shaped, body-length}
use Rattle.wire.proofs.writer.put_body.Goals as goal

size_of : {r : Record} (s : Record) → r ≡ s → Shaped s → length (body_bytes r) ≡ body_length (kind_of r)
size_of s e h = rw e (body-length s h)

pub returns-in-Key-clause-size : goal.returns-in-Key-clause-size
returns-in-Key-clause-size c = size_of _ c.in-Key.is (search rules)

pub returns-in-Variant-clause-size : goal.returns-in-Variant-clause-size
returns-in-Variant-clause-size c = size_of _ c.in-Variant.is tt

pub returns-in-Entry-clause-size : goal.returns-in-Entry-clause-size
returns-in-Entry-clause-size c = size_of _ c.in-Entry.is (search rules)

pub returns-in-Emit-clause-size : goal.returns-in-Emit-clause-size
returns-in-Emit-clause-size c = size_of _ c.in-Emit.is tt

pub returns-in-State-clause-size : goal.returns-in-State-clause-size
returns-in-State-clause-size c = size_of _ c.in-State.is tt

pub returns-in-WideKey-clause-size : goal.returns-in-WideKey-clause-size
returns-in-WideKey-clause-size c = size_of _ c.in-WideKey.is (search rules)

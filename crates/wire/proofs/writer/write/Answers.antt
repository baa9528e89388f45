-- The number is that of what was answered.
use Rattle.std.proofs.Common.{rules, Ok, Err}
use Rattle.values.specs.declared.Refusal.TheVariants.{NoRoom}
use Rattle.wire.proofs.Written.{write_number_lem}
use Rattle.wire.proofs.writer.write.Goals as goal

pub returns-then-out-n-clause-number : goal.returns-then-out-n-clause-number
returns-then-out-n-clause-number c = write_number_lem {a = Err NoRoom} c.args.record _ (search rules)

pub returns-clause-number : goal.returns-clause-number
returns-clause-number c = write_number_lem {a = Ok c.record_length-n.result} c.args.record _ (search rules)

-- What is written in the form of the operation is its expression, by the table's theorem.
use Rattle.text.proofs.Laws.{◌⨾◌}
use Rattle.operations.proofs.Table.{in_form}
use Rattle.expressions.proofs.combine.put_expression.Goals as goal

pub returns-in-Arg1 : goal.returns-in-Arg1
returns-in-Arg1 c = in_form _ _ _ _ c.form_of.ensures (rw c.in-Arg1.is c.put_arg.ensures)

pub returns-in-Arg2 : goal.returns-in-Arg2
returns-in-Arg2 c = in_form _ _ _ _ c.form_of.ensures (rw c.in-Arg2.is c.put_arg-in-Arg2.ensures)

pub returns-in-Both : goal.returns-in-Both
returns-in-Both c = in_form _ _ _ _ c.form_of.ensures (rw c.in-Both.is (search ◌⨾◌))

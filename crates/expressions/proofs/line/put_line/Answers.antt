-- Each arm has written the pieces of the line by its kind of alpha.
use Rattle.text.proofs.Laws.{◌⨾◌}
use Rattle.expressions.proofs.Lines.{from_colour, keeping, writing}
use Rattle.expressions.proofs.line.put_line.Goals as goal

pub returns-in-FromColour : goal.returns-in-FromColour
returns-in-FromColour c = rw c.in-FromColour.is (search (from_colour, ◌⨾◌))

pub returns-in-Kept : goal.returns-in-Kept
returns-in-Kept c = rw c.in-Kept.is (search (keeping, ◌⨾◌))

pub returns-in-Written : goal.returns-in-Written
returns-in-Written c = rw c.in-Written.is (search (writing, ◌⨾◌) depth 8)

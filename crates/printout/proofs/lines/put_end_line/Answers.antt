-- The pieces stand one behind another, and a line of the program fits its buffer.
use borrow.Author.Rules.{rules}
use Rattle.text.proofs.Laws.{◌⨾◌}
use Rattle.printout.proofs.LineLaws.{end_line_lem}
use Rattle.printout.proofs.lines.put_end_line.Goals as goal

pub returns : goal.returns
returns c =
    let line = end_line_lem _ (c.put-p.ensures.written ⨾ c.put_decimal-p.ensures ⨾ c.put.ensures.written) (search rules) in
    record { length = line.0; line = line.1 }

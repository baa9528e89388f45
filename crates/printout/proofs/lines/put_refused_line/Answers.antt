-- The pieces stand one behind another, and a line of the program fits its buffer.
use borrow.Author.Rules.{rules}
use Rattle.text.proofs.Laws.{◌⨾◌}
use Rattle.printout.proofs.LineLaws.{refused_line_lem}
use Rattle.printout.proofs.lines.put_refused_line.Goals as goal

pub returns : goal.returns
returns c =
    let w =
    c.put-p.ensures.written
    ⨾ c.put_decimal-p.ensures
    ⨾ c.put-p-2.ensures.written
    ⨾ c.put_decimal-p-2.ensures
    ⨾ c.put.ensures.written
    in
    let line = refused_line_lem _ _ (rw c.from.ensures at w) (search rules) in
    record { length = line.0; line = line.1 }

-- The three literals, one behind another, are the lines; so they have what is promised of the lines.
use Rattle.std.proofs.Common.{sym, subst}
use borrow.Author.Rules.{rules}
use Rattle.text.proofs.Laws.{◌⨾◌}
use Rattle.text.specs.Text.{decimal_of}
use Rattle.wire.specs.Bodies.{stages_bytes, key_bytes, variant_bytes, body_bytes}
use Rattle.longest.specs.Lines.{longest_lines, Longest}
use Rattle.longest.proofs.Filled.{fills}
use Rattle.longest.proofs.Reached.{longest}
use Rattle.longest.proofs.put_lines.Goals as goal

pub returns-clause-lines : goal.returns-clause-lines
unfolding longest_lines decimal_of stages_bytes key_bytes variant_bytes body_bytes
returns-clause-lines c = fills (c.put-a.ensures.written ⨾ c.put-b.ensures.written ⨾ c.put.ensures.written) (search rules)

pub returns-clause-longest : goal.returns-clause-longest
returns-clause-longest c = subst Longest (sym (returns-clause-lines c)) longest

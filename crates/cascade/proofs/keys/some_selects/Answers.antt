-- Where no argument selects it none that counts does; otherwise the two sides ask the same.
use Rattle.std.proofs.Common.{rules, sym, ◌∙◌}
use Rattle.cascade.specs.Keys.{selects}
use Rattle.cascade.proofs.Guards.{none_counted}
use Rattle.cascade.proofs.keys.some_selects.Goals as goal

pub returns-then-some : goal.returns-then-some
returns-then-some c = c.some_counted.ensures (selects c.args.selector) (λ a r h. search rules)

pub returns-else-some : goal.returns-else-some
returns-else-some c =
    let none = sym (c.some.ensures (selects c.args.selector) (λ a r h. search rules)) ∙ c.if-some.false in
    c.if-some.false ∙ sym (none_counted (selects c.args.selector) c.args.first c.args.second c.args.c none)

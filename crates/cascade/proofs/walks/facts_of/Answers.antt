-- The fold puts the facts of one stage more in front of those of the stages behind it.
use Rattle.std.proofs.Common.{rules}
use Rattle.cascade.specs.Keys.{stages_where, rows_of, last_constant, any_factor}
use Rattle.cascade.specs.Reading.{live}
use Rattle.cascade.specs.Walks.{facts_of, add_fact}
use Rattle.cascade.proofs.Walking.{walked, facts_cons}
use Rattle.cascade.proofs.walks.facts_of.Goals as goal

pub returns : goal.returns
unfolding facts_of stages_where rows_of last_constant any_factor live
returns c =
    walked facts_of add_fact facts_cons _ _ (λ f x g f' k. search rules) _ _ (search rules) c.requires _ _ (search rules) c.fold.ensures.ran

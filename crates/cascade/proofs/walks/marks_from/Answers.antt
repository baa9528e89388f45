-- The fold puts the marks of one stage more in front of those of the stages behind it.
use Rattle.std.proofs.Common.{rules}
use Rattle.cascade.specs.Reading.{marked, reads_bump_env}
use Rattle.cascade.specs.Survey.{marks_of}
use Rattle.cascade.specs.Walks.{marks_from, add_mark}
use Rattle.cascade.proofs.Walking.{walked, marks_cons}
use Rattle.cascade.proofs.walks.marks_from.Goals as goal

pub returns : goal.returns
unfolding marks_from marked marks_of reads_bump_env
returns c =
    walked (marks_from c.args.alive) (add_mark c.args.alive) (marks_cons c.args.alive) _ _ (λ m x n f' k. search rules) _ _ (search rules) c.requires _ _
    (search rules) c.fold.ensures.ran

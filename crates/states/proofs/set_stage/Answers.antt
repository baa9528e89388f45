-- A number that is no type leaves a stage.
use Rattle.std.proofs.Common.{sym}
use Rattle.states.proofs.Stages.{other_type}
use Rattle.states.proofs.set_stage.Goals as goal

pub returns-in-Err : goal.returns-in-Err
returns-in-Err c = sym (other_type c.args.state c.args.value c.args.stage c.in-Err.ensures.1).0

-- The two literals are the first parameters, with a point sprite's or without, and the constants behind them.
use Rattle.text.proofs.Laws.{same}
use Rattle.frame.proofs.Parts.{begins}
use Rattle.frame.proofs.signature.put_stage_in.Goals as goal

pub returns : goal.returns
returns c = same (begins _) c.put_either.ensures.written

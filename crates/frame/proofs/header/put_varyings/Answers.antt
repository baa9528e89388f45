-- What stands before the colours, the colours by the flag, and what stands behind them.
use Rattle.text.proofs.Laws.{◌⨾◌, same}
use Rattle.frame.proofs.Parts.{varyings}
use Rattle.frame.proofs.header.put_varyings.Goals as goal

pub returns : goal.returns
returns c = same (varyings _) (c.put-p.ensures.written ⨾ c.put_either-p.ensures.written ⨾ c.put.ensures.written)

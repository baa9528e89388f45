-- The two literals are the specular line, if it is there, and the line behind it.
use Rattle.text.proofs.Laws.{same}
use Rattle.frame.proofs.Parts.{highlit}
use Rattle.frame.proofs.output.put_specular.Goals as goal

pub returns : goal.returns
returns c = same (highlit _) c.put_either.ensures.written

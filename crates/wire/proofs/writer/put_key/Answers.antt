-- The stages, and the two bytes behind them; specular add is a byte of 1 or 0.
use Rattle.std.proofs.Common.{◌≡◌, refl, Bool, true, false, cond}
use mir.Val.{bool_byte}
use Rattle.text.proofs.Laws.{◌⨾◌, same}
use Rattle.wire.specs.Bodies.{key_bytes}
use Rattle.wire.proofs.writer.put_key.Goals as goal

bool_byte_lem : (b : Bool) → bool_byte b ≡ cond b 1 0
bool_byte_lem true = refl
bool_byte_lem false = refl

pub returns : goal.returns
unfolding key_bytes
returns c = same (rw (c.from.ensures, bool_byte_lem c.args.key.specular_add)) (c.put_stages-a.ensures ⨾ c.put.ensures.written)

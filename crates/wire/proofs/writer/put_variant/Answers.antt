-- The kind byte and the three first bytes, the masks, and the two last bytes, one behind another.
use Rattle.std.proofs.Common.{refl}
use Rattle.text.proofs.Laws.{◌⨾◌, same}
use Rattle.wire.specs.Bodies.{variant_bytes}
use Rattle.wire.proofs.writer.put_variant.Goals as goal

pub returns : goal.returns
unfolding variant_bytes
returns c = same refl (c.put-a.ensures.written ⨾ c.put_masks-b.ensures ⨾ c.put.ensures.written)

-- The masks passed are written, one behind another.
use Rattle.std.proofs.Common.{take}
use Rattle.std.specs.List.{flat_map}
use Rattle.text.specs.Text.{raw}
use Rattle.text.specs.Buffer.{Wrote}
use Rattle.wire.specs.Bodies.{mask_bytes}
use Rattle.wire.proofs.writer.put_masks.Given as goal

abbrev pub invariant-loop-mask : goal.invariant-loop-mask
invariant-loop-mask l = Wrote l.fn.out l.at l.out l.p (raw (flat_map mask_bytes (take l.mask-index l.mask-items)))

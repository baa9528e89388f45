-- One byte more is asked at each step.
use Rattle.std.proofs.Common.{arith, refl, sym}
use lib.Seq.{length-take-le}
use Rattle.inspection.specs.Raw.{any_byte_of_three}
use Rattle.inspection.proofs.Bytes.{byte_asked}
use Rattle.inspection.proofs.keys.any_byte_of_three.Goals as goal

pub slice_bounds-byte-items-end : goal.slice_bounds-byte-items-end
slice_bounds-byte-items-end c = sym (length-take-le 56 c.args.body.now (omega (arith, c.requires)))

pub loop-byte-init : goal.loop-byte-init
unfolding any_byte_of_three
loop-byte-init c = refl

pub loop-byte-preserved : goal.loop-byte-preserved
loop-byte-preserved c = byte_asked _ c.loop-byte.byte-index (omega arith) c.loop-byte.invariant c.three_operands-found.ensures

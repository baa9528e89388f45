-- The bytes so far have been asked.
use Rattle.std.proofs.Common.{◌≡◌, take}
use Rattle.inspection.specs.Raw.{any_byte_of_three}
use Rattle.inspection.proofs.keys.any_byte_of_three.Given as goal

abbrev pub invariant-loop-byte : goal.invariant-loop-byte
invariant-loop-byte l = l.found ≡ any_byte_of_three (take l.byte-index l.byte-items)

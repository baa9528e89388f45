-- One more mask is written behind those that were, and at the end all seven are.
use Rattle.std.proofs.Common.{arith, ◌≡◌, sym, ℕ, ◌+◌, ◌<◌, List, [], ◌∷◌, ◌++◌, length, take, get_or, add-one}
use Rattle.std.proofs.Math.Seq.{take-suc}
use Rattle.std.proofs.lemmas.Grind.{flat_map-append}
use Rattle.std.specs.List.{flat_map}
use Rattle.text.proofs.Laws.{◌⨾◌, same, nothing}
use Rattle.wire.specs.Bodies.{mask_bytes}
use Rattle.wire.proofs.writer.put_masks.Goals as goal

one_more : (l : List ℕ) (i : ℕ) → i < length l → flat_map mask_bytes (take i l) ++ mask_bytes (get_or l i 0) ≡ flat_map mask_bytes (take (i + 1) l)
one_more l i h = rw (add-one, take-suc l i 0 h) (sym (flat_map-append mask_bytes (take i l) (get_or l i 0 ∷ [])))

pub loop-mask-init : goal.loop-mask-init
loop-mask-init c = nothing _ _

pub loop-mask-preserved : goal.loop-mask-preserved
loop-mask-preserved c = same (one_more _ c.loop-mask.mask-index (omega arith)) (c.loop-mask.invariant ⨾ c.put_mask-p.ensures)

pub returns : goal.returns
returns c = let all : c.loop-mask.mask-index ≡ 7 = omega arith in rw all at c.loop-mask.invariant

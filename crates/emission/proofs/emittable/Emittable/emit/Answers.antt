-- The values are free of the other causes, so the room alone decides.
use Rattle.std.proofs.Common.{arith, ◌≤◌, length, rules, ap, ◌∙◌}
use Rattle.std.specs.Prelude.{Ok}
use Rattle.emission.proofs.Answers.{effective_whole, no_room, with_room, accepted, demanded, numbered}
use Rattle.emission.proofs.emittable.Emittable.emit.Goals as goal

pub returns-in_err-written-clause-answer : goal.returns-in_err-written-clause-answer
returns-in_err-written-clause-answer c =
    let x = c.args.self.now in
    let same = effective_whole x.key.now x.variant.now x.entry.now x.effective in
    let o = rw (c.new-surveyed.ensures, same) at c.in_err-written.ensures.over in
    search (rules, no_room _ _ _ _ x.free o.1.0)

pub returns : goal.returns
returns c =
    let x = c.args.self.now in
    let same = effective_whole x.key.now x.variant.now x.entry.now x.effective in
    let w = rw (c.new-surveyed.ensures, same) at c.in_ok-written.ensures in
    let is = rw c.new-surveyed.ensures at c.new-surveyed.result.is in
    let m = accepted x.key.now x.variant.now x.entry.now c.new-surveyed.result.survey _ _ x.effective is w.place.0 w.place.1 in
    let a = ap Ok m ∙ with_room _ _ _ _ x.free w.fits.0 in
    let eight : length x.key.now.stages ≤ 8 = rw (← c.new-surveyed.ensures) (omega arith) in
    record { answer = a; buffer = w.fits.1; names = demanded _ _ _ _ eight x.free m w.fits.1; number = numbered _ _ _ _ a }

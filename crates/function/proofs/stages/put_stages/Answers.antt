-- A turn writes one stage's lookup and line, and counts the lookup; a bump stage has no line.
use Rattle.std.proofs.Common.{◌∙◌}
use Rattle.function.proofs.Loops.{stages_turn, stages_end, survey_marked, no_line, a_line}
use Rattle.function.proofs.stages.put_stages.Goals as goal

-- a bump stage
pub loop-i-preserved-in_default : goal.loop-i-preserved-in_default
loop-i-preserved-in_default c =
    let mark = c.bit-marked.ensures ∙ survey_marked _ _ _ c.args.s.now.is c.active-stage-items.ensures.stages c.loop-i.i c.loop-i-test.true in
    let looked = rw c.new-n.ensures at c.put_marked-place.ensures.wrote in
    let lined = no_line c.args.s.now.survey.live c.loop-i.i _ c.decode.ensures c.in_default.is in
    rw (c.before_of-before.ensures, c.new-n.ensures)
    (stages_turn _ _ _ _ _ _ c.loop-i.i _ c.loop-i-test.true mark c.loop-i.invariant looked lined c.put_marked-place.ensures.lookups_value)

-- another
pub loop-i-preserved : goal.loop-i-preserved
loop-i-preserved c =
    let mark = c.bit-marked.ensures ∙ survey_marked _ _ _ c.args.s.now.is c.active-stage-items.ensures.stages c.loop-i.i c.loop-i-test.true in
    let looked = rw c.new-n.ensures at c.put_marked-place.ensures.wrote in
    let lined = a_line c.args.s.now.survey.live c.loop-i.i _ c.decode.ensures c.in-Some.is (rw c.new-n.ensures at c.put_stage_line.ensures) in
    rw (c.before_of-before.ensures, c.new-n.ensures)
    (stages_turn _ _ _ _ _ _ c.loop-i.i _ c.loop-i-test.true mark c.loop-i.invariant looked lined c.put_marked-place.ensures.lookups_value)

pub returns-clause-wrote : goal.returns-clause-wrote
returns-clause-wrote c = rw (← c.active-stage-items.ensures.stages) (stages_end _ _ _ _ _ _ c.loop-i.i c.loop-i-test.false c.loop-i.invariant).0

pub returns-clause-lookups_value : goal.returns-clause-lookups_value
returns-clause-lookups_value c = rw (← c.active-stage-items.ensures.stages) (stages_end _ _ _ _ _ _ c.loop-i.i c.loop-i-test.false c.loop-i.invariant).1

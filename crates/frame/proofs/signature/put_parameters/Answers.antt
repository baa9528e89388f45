-- The parameters in the order of `parameters_text`: those that a test of the variant or of the survey asks for, then a texture and a sampler a stage.
use Rattle.std.proofs.Common.{ap}
use Rattle.text.proofs.Laws.{◌⨾◌, regroup}
use Rattle.cascade.specs.Survey.{survey_of}
use Rattle.cascade.specs.declared.Survey.{Survey}
use Rattle.shader.specs.Whole.{parameters_text}
use Rattle.frame.proofs.signature.put_parameters.Goals as goal

pub returns : goal.returns
unfolding parameters_text survey_of
returns c =
    let bumps = ap (λ (s : Survey). s.bump_env) c.args.s.now.is in
    rw (← bumps, ← c.has.ensures, ← c.tested.ensures, ← c.fogged.ensures, ← c.has-2.ensures)
    (regroup (c.put_stage_in-p.ensures ⨾ c.put_when-p.ensures.written ⨾ c.put_when-p-2.ensures.written ⨾ c.put_when-p-3.ensures.written
    ⨾ c.put_when-p-4.ensures.written ⨾ c.put_samplers-p.ensures ⨾ c.put.ensures.written))

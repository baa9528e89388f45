-- A stage with a texture has the texture's parameter and the sampler's, by the type that the variant gives it.
use Rattle.text.proofs.Laws.{◌⨾◌, same, pick_true}
use Rattle.frame.proofs.Parts.{paired}
use Rattle.frame.proofs.signature.put_sampler.Goals as goal

pub returns-then-there : goal.returns-then-there
returns-then-there c =
    pick_true c.if-there.true
    (same (paired c.args.v c.args.i _ (rw c.number.ensures.number at c.texture_type_of.ensures)) (c.put_texture-p.ensures ⨾ c.put_staged.ensures.written))

-- The struct, the helper and the line up to the entry, each by a flag of the variant.
use Rattle.shader.specs.Whole.{varyings_text, srgb_helper_text, fragment_text, front_text}
use Rattle.frame.proofs.Parts.{picked, answered}
use Rattle.frame.proofs.header.put_front.Goals as goal

pub returns : goal.returns
unfolding front_text fragment_text
returns c = search (picked, answered varyings_text, answered srgb_helper_text)

-- The kind byte, and the body behind it, are written whole.
use Rattle.std.proofs.Common.{arith, ap, ◌∙◌}
use Rattle.text.specs.Text.{raw}
use Rattle.text.proofs.Laws.{◌⨾◌, same, whole}
use Rattle.wire.specs.Bodies.{kind_byte, record_bytes}
use Rattle.wire.proofs.writer.put_record.Goals as goal

pub returns : goal.returns
returns c =
    let written = c.put-a.ensures.written ⨾ c.put_body.ensures.written in
    whole {t = raw (record_bytes c.args.record)} (same (rw (c.from.ensures ∙ ap kind_byte c.kind.ensures)) written) (omega (arith, c.put_body.ensures.size))

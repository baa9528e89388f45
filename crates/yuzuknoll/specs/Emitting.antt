-- Emission from the bodies of a key, a variant and an entry: what yuzuknoll_emit and yuzuknoll_emit_wide answer, write and report.
use Rattle.std.specs.Prelude.{ℕ, Bool, true, cond, List}
use Rattle.shader.specs.Results.{emitted_of, text_of, emission_number}
use Rattle.wire.specs.Bodies.{key_kind, key_from_body, variant_from_body, entry_from_body}
use Rattle.values.specs.declared.Key.{Key}
use Rattle.wire.specs.Reading.{body_number}
use Rattle.inspection.specs.Raw.{raw_key}
use Rattle.yuzuknoll.specs.Lent.{first_of, result_numbers}

-- A key, of kind 6 where it is wide, else of kind 1, is refused as in a record, with 3, then 4; then 5, 6, 13 and 8 are emission's. room is the length of
-- the buffer.
abbrev pub bodies_number : Bool → List ℕ → List ℕ → List ℕ → ℕ → ℕ
bodies_number wide k v e room =
    first_of (body_number (key_kind wide) k) (emission_number (key_from_body wide k) (variant_from_body v) (entry_from_body e) room)

-- the text and the result of the values that the bodies stand for
abbrev pub bodies_text : Bool → List ℕ → List ℕ → List ℕ → List ℕ
bodies_text wide k v e = text_of (key_from_body wide k) (variant_from_body v) (entry_from_body e)

abbrev pub bodies_result : Bool → List ℕ → List ℕ → List ℕ → List ℕ
bodies_result wide k v e = result_numbers (emitted_of (key_from_body wide k) (variant_from_body v) (entry_from_body e))

-- The key that is read of a body first: of kind 1 as its bytes lie. It is emitted in the place of the body's, where no op has three operands. Only contracts
-- of private functions cite it.
abbrev pub key_read : Bool → List ℕ → Key
key_read wide k = cond wide (key_from_body true k) (raw_key k)

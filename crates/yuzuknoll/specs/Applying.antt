-- The held key, variant and entry as bytes, and a record applied to them: what yuzuknoll_apply holds, writes and reports. Its number is `applied_number`
-- of records/specs/Applying, for the values that the held bytes stand for.
use Rattle.std.specs.Prelude.{ℕ, ◌+◌, Bool, ◌&&◌, cond, List, [], ◌++◌, eqb, take, drop, get_or, replicate, Option, Some, None}
use Rattle.std.proofs.lemmas.List.Edits.{sets}
use Rattle.shader.specs.Results.{emitted_of}
use Rattle.values.specs.declared.StateWrite.{StateWrite}
use Rattle.states.specs.Writes.{write_applied}
use Rattle.wire.specs.Bodies.{kind_byte, key_kind, record_length, record_bytes, key_from_body, variant_from_body, entry_from_body, state_from_body}
use Rattle.wire.specs.Values.{key_record}
use Rattle.wire.specs.Reading.{body_number}
use Rattle.wire.specs.declared.Kind.{Kind}
use Rattle.wire.specs.declared.Kind.TheVariants as kind
use Rattle.records.specs.Applying.{Values, HeldDemands, all_held, key_or_defaults, text_in}
use Rattle.records.specs.declared.Held.{Held}
use Rattle.yuzuknoll.specs.Lent.{record_numbers, result_numbers, result_of}

-- What is held.

-- The records of a key, a variant and an entry stand one behind another, each in a part of its own: where it begins, and how many bytes it has behind
-- the kind byte. The key's part has room for a record of either kind. A state write belongs to the key.
abbrev pub place_of : Kind → ℕ
place_of kind.Key = 0
place_of kind.Variant = 75
place_of kind.Entry = 95
place_of kind.Emit = 129
place_of kind.State = 0
place_of kind.WideKey = 0

abbrev pub room_of : Kind → ℕ
room_of kind.Key = 74
room_of kind.Variant = 19
room_of kind.Entry = 33
room_of kind.Emit = 0
room_of kind.State = 74
room_of kind.WideKey = 74

abbrev pub held_length : ℕ
held_length = 129

abbrev pub held_byte : Kind → List ℕ → ℕ
held_byte k held = get_or held (place_of k) 0

abbrev pub held_body : Kind → List ℕ → List ℕ
held_body k held = take (room_of k) (drop (place_of k + 1) held)

-- A part that is no good record of its kind counts as not held. So zeros hold nothing.
abbrev pub is_record : Kind → ℕ → List ℕ → Bool
is_record k byte body = eqb byte (kind_byte k) && eqb (body_number k body) 0

-- The kind byte of the key's part tells which kind of key it may be.
abbrev pub held_wide : List ℕ → Bool
held_wide held = eqb (held_byte kind.Key held) (kind_byte kind.WideKey)

abbrev pub held_if : {A : Type 0} → Bool → A → Option A
held_if good x = cond good (Some x) None

-- the values that held bytes stand for
unfoldable pub held_of : List ℕ → Held
held_of held =
    record {
      key =
          held_if (is_record (key_kind (held_wide held)) (held_byte kind.Key held) (held_body kind.Key held))
          (key_from_body (held_wide held) (held_body kind.Key held));
      variant = held_if (is_record kind.Variant (held_byte kind.Variant held) (held_body kind.Variant held)) (variant_from_body (held_body kind.Variant held));
      entry = held_if (is_record kind.Entry (held_byte kind.Entry held) (held_body kind.Entry held)) (entry_from_body (held_body kind.Entry held));
    }

-- A record of a kind, applied.

-- what an emit record does, or what every other record does
abbrev pub on_emit : {A : Type 0} → Kind → A → A → A
on_emit kind.Key emits holds = holds
on_emit kind.Variant emits holds = holds
on_emit kind.Entry emits holds = holds
on_emit kind.Emit emits holds = emits
on_emit kind.State emits holds = holds
on_emit kind.WideKey emits holds = holds

-- the record of the key that a state write makes of the held one
abbrev pub altered_record : StateWrite → List ℕ → List ℕ
altered_record w held = record_bytes (key_record (write_applied w (key_or_defaults (held_of held))))

-- what then stands at the front of the record's part of the held bytes: the record at the front of b, or, for a state write, the record of the altered
-- key. What the part has behind it stays.
abbrev pub part_with : Kind → List ℕ → List ℕ → List ℕ
part_with kind.Key b held = take (record_length kind.Key) b
part_with kind.Variant b held = take (record_length kind.Variant) b
part_with kind.Entry b held = take (record_length kind.Entry) b
part_with kind.Emit b held = []
part_with kind.State b held = altered_record (state_from_body (drop 1 b)) held
part_with kind.WideKey b held = take (record_length kind.WideKey) b

unfoldable pub held_with : Kind → List ℕ → List ℕ → List ℕ
held_with k b held = on_emit k held (sets held (place_of k) (part_with k b held))

-- the text of the held values begins the buffer
unfoldable pub text_with : Kind → Held → List ℕ → List ℕ
text_with k h out = on_emit k (text_in (all_held h) out) out

-- the text's result, 0 in its place where there is none
abbrev pub no_result : List ℕ
no_result = replicate 8 0

abbrev pub result_in : Option Values → List ℕ
result_in None = no_result
result_in (Some x) = result_numbers (emitted_of x.key x.variant x.entry)

unfoldable pub result_with : Kind → Held → List ℕ
result_with k h = on_emit k (result_in (all_held h)) no_result

-- what is demanded of the names of that text, said of the buffer that it begins and of the eight numbers
abbrev pub HeldReported : Held → List ℕ → List ℕ → Type 0
HeldReported h out l = HeldDemands (all_held h) (result_of l) out

abbrev pub applied_numbers : Kind → Held → List ℕ
applied_numbers k h = record_numbers k ++ result_with k h

-- The held key, variant and entry, and the record at the front of some bytes applied to them.
-- 01: "7, and 8 for a text, come from the call above it that reads a record and applies it."
use Rattle.std.specs.Prelude.{ℕ, cond, List, [], eqb, get_or, take, Option, Some, None, is_some, IfSome, Result, Ok, Err, IfOk}
use Rattle.values.specs.declared.Key.{Key}
use Rattle.values.specs.declared.Variant.{Variant}
use Rattle.values.specs.declared.Entry.{Entry}
use Rattle.values.specs.declared.Emitted.{Emitted}
use Rattle.values.specs.declared.Refusal.{Refusal}
use Rattle.values.specs.declared.Refusal.TheVariants.{EmitTooEarly}
use Rattle.shader.specs.Results.{text_of, answer_of, in_front, emission_number}
use Rattle.shader.specs.Demand.{Demands}
use Rattle.states.specs.States.{defaults}
use Rattle.states.specs.Writes.{write_applied}
use Rattle.wire.specs.Bodies.{kind_byte}
use Rattle.wire.specs.Reading.{read_record, record_number}
use Rattle.wire.specs.declared.Kind.TheVariants as kind
use Rattle.wire.specs.declared.Record.{Record}
use Rattle.wire.specs.declared.Record.TheVariants as rec
use Rattle.wire.specs.declared.Reading.{Reading}
use Rattle.records.specs.declared.Held.{Held}
use Rattle.records.specs.declared.Applied.{Applied}

-- What is held.

-- what is held at first
abbrev pub nothing_held : Held
nothing_held = record { key = None; variant = None; entry = None }

-- the values that a text is emitted from
pub record Values : Type 0 where
  pub key : Key
  pub variant : Variant
  pub entry : Entry

abbrev pub all_of : Option Key → Option Variant → Option Entry → Option Values
all_of None v e = None
all_of (Some k) None e = None
all_of (Some k) (Some v) None = None
all_of (Some k) (Some v) (Some e) = Some (record { key = k; variant = v; entry = e })

abbrev pub all_held : Held → Option Values
all_held h = all_of h.key h.variant h.entry

-- 02, One: "Before any write, a key starts from Microsoft's defaults"; "a write after a key record alters that key"
abbrev pub or_defaults : Option Key → Key
or_defaults None = defaults
or_defaults (Some k) = k

abbrev pub key_or_defaults : Held → Key
key_or_defaults h = or_defaults h.key

-- a key of either kind, in the place of the one that was held
abbrev pub holding_key : Key → Held → Held
holding_key k h = record { key = Some k; variant = h.variant; entry = h.entry }

-- what is held once a record's value is, or once its write is done. 02, One: "The first write counts as a key for number 7"
abbrev pub holding : Record → Held → Held
holding (rec.Key k) h = holding_key k h
holding (rec.Variant v) h = record { key = h.key; variant = Some v; entry = h.entry }
holding (rec.Entry e) h = record { key = h.key; variant = h.variant; entry = Some e }
holding rec.Emit h = h
holding (rec.State w) h = holding_key (write_applied w (key_or_defaults h)) h
holding (rec.WideKey k) h = holding_key k h

-- What is answered, held then, and left in the buffer for the text, of which room is the length.

-- 7: "emit before key, variant and entry". 01: "The text and result of an accepted emit record are those of emission from the held key, variant and entry
-- into the same buffer."
abbrev pub emit_answer : Option Values → ℕ → Result Emitted Refusal
emit_answer None room = Err EmitTooEarly
emit_answer (Some x) room = answer_of x.key x.variant x.entry room

-- to an emit record that took n bytes, and to any other
abbrev pub text_answer : ℕ → Result Emitted Refusal → Result Applied Refusal
text_answer n (Ok e) = Ok (record { length = n; text = Some e })
text_answer n (Err c) = Err c

abbrev pub value_answer : ℕ → Result Applied Refusal
value_answer n = Ok (record { length = n; text = None })

-- to a record that took n bytes
abbrev pub apply_as : Record → ℕ → Held → ℕ → Result Applied Refusal
apply_as (rec.Key k) n h room = value_answer n
apply_as (rec.Variant v) n h room = value_answer n
apply_as (rec.Entry e) n h room = value_answer n
apply_as rec.Emit n h room = text_answer n (emit_answer (all_held h) room)
apply_as (rec.State w) n h room = value_answer n
apply_as (rec.WideKey k) n h room = value_answer n

-- to what was read, and to the record at the front of b
abbrev pub apply_read : Result Reading Refusal → Held → ℕ → Result Applied Refusal
apply_read (Ok x) h room = apply_as x.record x.length h room
apply_read (Err c) h room = Err c

abbrev pub apply_answer : Held → List ℕ → ℕ → Result Applied Refusal
apply_answer h b room = apply_read (read_record b) h room

-- 01: "`all` means that every lent byte and the held key, variant and entry are as before the call."
abbrev pub held_by : Result Reading Refusal → Held → Held
held_by (Ok x) h = holding x.record h
held_by (Err c) h = h

abbrev pub held_after : Held → List ℕ → Held
held_after h b = held_by (read_record b) h

-- the text of the values; before all three are held there is none
abbrev pub text_held : Option Values → List ℕ
text_held None = []
text_held (Some x) = text_of x.key x.variant x.entry

-- it begins the buffer
abbrev pub text_in : Option Values → List ℕ → List ℕ
text_in x out = in_front (text_held x) out

-- what the buffer for text holds afterwards: the text where one was written, else what it held
abbrev pub text_after : Result Applied Refusal → Held → List ℕ → List ℕ
text_after (Ok x) h out = cond (is_some x.text) (text_in (all_held h) out) out
text_after (Err c) h out = out

-- What is demanded of the names of an accepted emit record, and of the bytes that the buffer then holds, is what emission promises. No text is answered
-- before a key, a variant and an entry are held.
abbrev pub HeldDemands : Option Values → Emitted → List ℕ → Type 0
HeldDemands None e out = ⊥
HeldDemands (Some x) e out = Demands x.key (take e.length out) e

abbrev pub AppliedDemands : Held → Result Applied Refusal → List ℕ → Type 0
AppliedDemands h a out = IfOk a (λ x. IfSome x.text (λ e. HeldDemands (all_held h) e out))

-- The numbers of 01's table.

-- of an emit record: 7, then emission's 3, 5, 6, 13 and 8, in that order; 0 where none of them holds
abbrev pub values_number : Option Values → ℕ → ℕ
values_number None room = 7
values_number (Some x) room = emission_number x.key x.variant x.entry room

abbrev pub emit_number : Held → ℕ → ℕ
emit_number h room = values_number (all_held h) room

-- of some bytes: the reader's 2, 1, and those of a body, and behind them those of an emit record; 0 where none of them holds
abbrev pub applied_number : Held → List ℕ → ℕ → ℕ
applied_number h b room =
    cond (eqb (record_number b) 0) (cond (eqb (get_or b 0 0) (kind_byte kind.Emit)) (emit_number h room) 0) (record_number b)

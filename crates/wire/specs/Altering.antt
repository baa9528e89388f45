-- A state write done to the body of a key as it lies. Only the contract of `wire::alter::alter` cites it, which the C interface calls.
use Rattle.std.specs.Prelude.{ℕ, ◌≤◌, ◌≡◌, Bool, true, List, ◌++◌, length, drop}
use Rattle.values.specs.declared.StateWrite.{StateWrite}
use Rattle.states.specs.Writes.{accepted, write_applied}
use Rattle.wire.specs.Bodies.{body_length, key_kind, key_bytes, key_from_body}
use Rattle.wire.specs.Reading.{body_number}

-- a body of a key, whole and good, and an accepted write
pub record Alterable (wide : Bool) (b : List ℕ) (w : StateWrite) : Type 0 where
  pub whole : body_length (key_kind wide) ≤ length b
  pub good : body_number (key_kind wide) b ≡ 0
  pub taken : accepted w ≡ true

-- the body of the altered key; what stands behind it stays
abbrev pub body_with : Bool → List ℕ → StateWrite → List ℕ
body_with wide b w = key_bytes wide (write_applied w (key_from_body wide b)) ++ drop (body_length (key_kind wide)) b

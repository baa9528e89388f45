-- A scene's list of writes and the key that it makes, computed: of two writes to one state the last counts, a refused write does nothing, and a write
-- of an argument 0 behind the cascade's end makes the key one of kind 6. And a list of writes to different states, from its beginning and from its end.
use Prim.Native.Nat.{ℕ}
use mathlib.Core.Path.{◌≡◌, refl}
use mathlib.Core.Bool.{true, false}
use mathlib.Core.List.{List, [], ◌∷◌, ◌++◌, reverse}
use lib.ListN.{replicate, set}
use Rattle.values.specs.declared.Key.{Key}
use Rattle.values.specs.declared.StateWrite.{StateWrite}
use Rattle.states.specs.Types.{alpha_arg0, colour_op, colour_arg0, colour_arg2, result_arg, texture_bound}
use Rattle.states.specs.States.{default_stage, defaults, set_stage, set_state, wide_stages}
use Rattle.states.specs.Writes.{state_write_number, writes_applied, write_applied}

write : ℕ → ℕ → ℕ → StateWrite
write i t v = record { stage = i; state = t; value = v }

scene : List StateWrite
scene =
    write 0 colour_op 7
    ∷ write 0 texture_bound 1
    ∷ write 0 result_arg 5
    ∷ write 0 colour_op 4
    ∷ write 8 colour_op 2
    ∷ write 1 colour_arg2 256
    ∷ write 1 colour_arg2 0x36
    ∷ write 1 colour_op 2
    ∷ []

made : Key
made =
    record {
      stages =
          record { colour = record { op = 4; arg1 = 2; arg2 = 1; arg0 = 1 }; alpha = record { op = 2; arg1 = 2; arg2 = 1; arg0 = 1 }; flags = 3 }
          ∷ record { colour = record { op = 2; arg1 = 2; arg2 = 0x36; arg0 = 1 }; alpha = record { op = 1; arg1 = 2; arg2 = 1; arg0 = 1 }; flags = 0 }
          ∷ replicate 6 (default_stage 1 1);
      specular_add = false;
      projected = 0;
      wide = false;
    }

-- the same key with colour argument 0 written at stage 2
made_wide : Key
made_wide =
    record {
      stages = set made.stages 2 (set_stage colour_arg0 1 (default_stage 1 1));
      specular_add = false;
      projected = 0;
      wide = true;
    }

scene_made : writes_applied scene defaults ≡ made
unfolding scene write made defaults set_stage set_state state_write_number writes_applied write_applied
scene_made = refl

widened_made : writes_applied (scene ++ (write 2 colour_arg0 1 ∷ [])) defaults ≡ made_wide
unfolding scene write made made_wide defaults set_stage set_state state_write_number wide_stages writes_applied write_applied
widened_made = refl

-- types 28 and 0 share a byte, and 26 and 27 turn the key to kind 6
different : List StateWrite
different = write 0 result_arg 5 ∷ write 0 texture_bound 1 ∷ write 1 texture_bound 0 ∷ write 0 colour_arg0 3 ∷ write 1 alpha_arg0 4 ∷ []

either_way : writes_applied different defaults ≡ writes_applied (reverse different) defaults
unfolding different write defaults set_stage set_state state_write_number wide_stages writes_applied write_applied
either_way = refl

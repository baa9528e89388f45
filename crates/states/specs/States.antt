-- What a key holds for a stage and a type, a key with one state changed, and the key before any write.
use Rattle.std.specs.Prelude.{ℕ, ◌+◌, ◌*◌, ◌/◌, ◌%◌, false, ◌||◌, cond, List, [], ◌∷◌, map, eqb, get_or, set, replicate}
use Rattle.values.specs.declared.Combiner.{Combiner}
use Rattle.values.specs.declared.Stage.{Stage}
use Rattle.values.specs.declared.Key.{Key}
use Rattle.values.specs.Kinds.{default_arg0, seven_bytes}
use Rattle.states.specs.Types.{colour_op, colour_arg1, colour_arg2, colour_arg0, alpha_op, alpha_arg1, alpha_arg2, alpha_arg0}
use Rattle.states.specs.Types.{result_arg, texture_bound, sets_arg0}

-- 01: "Flag bit 0: a texture is bound; bit 1: the result goes to TEMP." The result's value is 1, CURRENT, or 5, TEMP.
abbrev pub bound_of : ℕ → ℕ
bound_of flags = flags % 2

abbrev pub result_arg_of : ℕ → ℕ
result_arg_of flags = cond (eqb (flags / 2 % 2) 0) 1 5

-- the flags with bit 0, or bit 1, written; every other bit stays
abbrev pub with_bound : ℕ → ℕ → ℕ
with_bound v flags = cond (eqb v 1) 1 0 + 2 * (flags / 2)

abbrev pub with_result : ℕ → ℕ → ℕ
with_result v flags = flags % 2 + (2 * cond (eqb v 5) 1 0 + 4 * (flags / 4))

abbrev pub set_flags : ℕ → ℕ → ℕ → ℕ
set_flags t v flags = cond (eqb t result_arg) (with_result v flags) (cond (eqb t texture_bound) (with_bound v flags) flags)

-- the states of a stage, each behind its type
abbrev pub stage_states : Stage → List (ℕ × ℕ)
stage_states s =
    (colour_op, s.colour.op)
    ∷ (colour_arg1, s.colour.arg1)
    ∷ (colour_arg2, s.colour.arg2)
    ∷ (alpha_op, s.alpha.op)
    ∷ (alpha_arg1, s.alpha.arg1)
    ∷ (alpha_arg2, s.alpha.arg2)
    ∷ (result_arg, result_arg_of s.flags)
    ∷ (texture_bound, bound_of s.flags)
    ∷ (colour_arg0, s.colour.arg0)
    ∷ (alpha_arg0, s.alpha.arg0)
    ∷ []

-- the value of a type in such a list, 0 for a number that is no type
abbrev pub value_of : ℕ → List (ℕ × ℕ) → ℕ
value_of t [] = 0
value_of t (e ∷ r) = cond (eqb t e.0) e.1 (value_of t r)

unfoldable pub stage_state : ℕ → Stage → ℕ
stage_state t s = value_of t (stage_states s)

-- the stage with the value v for the type t, and everything else as it was
unfoldable pub set_stage : ℕ → ℕ → Stage → Stage
set_stage t v s =
    record {
      colour =
          record {
            op = cond (eqb t colour_op) v s.colour.op;
            arg1 = cond (eqb t colour_arg1) v s.colour.arg1;
            arg2 = cond (eqb t colour_arg2) v s.colour.arg2;
            arg0 = cond (eqb t colour_arg0) v s.colour.arg0;
          };
      alpha =
          record {
            op = cond (eqb t alpha_op) v s.alpha.op;
            arg1 = cond (eqb t alpha_arg1) v s.alpha.arg1;
            arg2 = cond (eqb t alpha_arg2) v s.alpha.arg2;
            arg0 = cond (eqb t alpha_arg0) v s.alpha.arg0;
          };
      flags = set_flags t v s.flags;
    }

-- 02, One: "arguments 2 and 1", behind an op
abbrev pub default_combiner : ℕ → Combiner
default_combiner o = record { op = o; arg1 = 2; arg2 = 1; arg0 = default_arg0 }

-- "result 1; no texture", with the ops of colour and alpha
abbrev pub default_stage : ℕ → ℕ → Stage
default_stage c a = record { colour = default_combiner c; alpha = default_combiner a; flags = 0 }

-- "a key starts from Microsoft's defaults: ops 4 and 2 at stage 0, 1 elsewhere; ..; specular add and projected mask 0"
unfoldable pub defaults : Key
defaults = record { stages = default_stage 4 2 ∷ replicate 7 (default_stage 1 1); specular_add = false; projected = 0; wide = false }

-- stage i of some; a number that is none of theirs stands for a default stage
abbrev pub stage_at : ℕ → List Stage → Stage
stage_at i l = get_or l i (default_stage 1 1)

-- The stages of a key as one of kind 6: "their default is 1, also in a kind 1 key so turned".
unfoldable pub wide_stages : Key → List Stage
wide_stages k = cond k.wide k.stages (map seven_bytes k.stages)

-- what the key holds for a stage and a type
unfoldable pub get_state : ℕ → ℕ → Key → ℕ
get_state i t k = stage_state t (stage_at i (wide_stages k))

-- the stages that a write of the type t alters. 02, Nine: types 26 and 27 "make the key a kind 6 key"; "other writes leave a key's kind"
abbrev pub stages_for : ℕ → Key → List Stage
stages_for t k = cond (sets_arg0 t) (wide_stages k) k.stages

-- the key with the value v for the type t at stage i, and everything else as it was
unfoldable pub set_state : ℕ → ℕ → ℕ → Key → Key
set_state i t v k =
    record {
      stages = set (stages_for t k) i (set_stage t v (stage_at i (stages_for t k)));
      specular_add = k.specular_add;
      projected = k.projected;
      wide = k.wide || sets_arg0 t;
    }

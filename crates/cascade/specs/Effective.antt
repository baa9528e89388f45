-- The two kinds of key: the stages that the rules of the cascade speak of.
-- 02: "Kind 1 keys keep the repository's text", in which MULTIPLYADD and LERP are ops without a text. Every rule takes them there for PREMODULATE, an op
-- without a text that no rule names; a key of kind 6 is taken as it is.
use Rattle.std.specs.Prelude.{ℕ, Bool, false, ◌||◌, cond, List, [], ◌∷◌, map}
use Rattle.combiners.specs.Codes.{pre_modulate}
use Rattle.combiners.specs.Combiners.{three_operands}
use Rattle.values.specs.declared.Combiner.{Combiner}
use Rattle.values.specs.declared.Stage.{Stage}
use Rattle.values.specs.declared.Key.{Key}
use Rattle.cascade.specs.Keys.{active}

abbrev pub narrow_op : ℕ → ℕ
narrow_op o = cond (three_operands o) pre_modulate o

abbrev pub narrow_combiner : Combiner → Combiner
narrow_combiner c = record { op = narrow_op c.op; arg1 = c.arg1; arg2 = c.arg2; arg0 = c.arg0 }

abbrev pub narrow_stage : Stage → Stage
narrow_stage s = record { colour = narrow_combiner s.colour; alpha = narrow_combiner s.alpha; flags = s.flags }

unfoldable pub effective_stages : Key → List Stage
effective_stages k = cond k.wide k.stages (map narrow_stage k.stages)

-- some op of these stages is of three operands
unfoldable pub any_of_three : List Stage → Bool
any_of_three [] = false
any_of_three (s ∷ r) = (three_operands s.colour.op || three_operands s.alpha.op) || any_of_three r

abbrev pub active_stages : Key → List Stage
active_stages k = active (effective_stages k)

-- the key with the stages that take effect
abbrev pub effective : Key → Key
effective k = record { stages = effective_stages k; specular_add = k.specular_add; projected = k.projected; wide = k.wide }

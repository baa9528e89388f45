-- The two kinds of key: the stages of kind 1 have seven bytes, those of kind 6 have nine, with colour argument 0 and alpha argument 0.
use Rattle.std.specs.Prelude.{ℕ, false, map}
use Rattle.values.specs.declared.Combiner.{Combiner}
use Rattle.values.specs.declared.Stage.{Stage}
use Rattle.values.specs.declared.Key.{Key}

-- 02, of arguments 0: "their default is 1, also in a kind 1 key"
abbrev pub default_arg0 : ℕ
default_arg0 = 1

abbrev pub three_bytes : Combiner → Combiner
three_bytes c = record { op = c.op; arg1 = c.arg1; arg2 = c.arg2; arg0 = default_arg0 }

abbrev pub seven_bytes : Stage → Stage
seven_bytes s = record { colour = three_bytes s.colour; alpha = three_bytes s.alpha; flags = s.flags }

-- the key of kind 1 with the seven bytes of each stage
abbrev pub narrow : Key → Key
narrow k = record { stages = map seven_bytes k.stages; specular_add = k.specular_add; projected = k.projected; wide = false }

-- A key of kind 1 as its bytes lie. An argument 0, which no op of such a key has, is the byte behind its combiner's three, so that four bytes are read at
-- once. Only inner contracts cite it: those of the functions here that the C interface calls, and that of `read_key` there.
use Rattle.std.specs.Prelude.{ℕ, zero, suc, Bool, false, ◌||◌, List, [], ◌∷◌, eqb, drop, get_or}
use Rattle.combiners.specs.Combiners.{three_operands}
use Rattle.wire.specs.Bodies.{specular_byte}
use Rattle.values.specs.declared.Stage.{Stage}
use Rattle.values.specs.declared.Key.{Key}

abbrev pub raw_stage : List ℕ → Stage
raw_stage b =
    record {
      colour = record { op = get_or b 0 0; arg1 = get_or b 1 0; arg2 = get_or b 2 0; arg0 = get_or b 3 0 };
      alpha = record { op = get_or b 3 0; arg1 = get_or b 4 0; arg2 = get_or b 5 0; arg0 = get_or b 6 0 };
      flags = get_or b 6 0;
    }

-- the first n stages
unfoldable pub raw_stages : ℕ → List ℕ → List Stage
raw_stages zero b = []
raw_stages (suc n) b = raw_stage b ∷ raw_stages n (drop 7 b)

unfoldable pub raw_key : List ℕ → Key
raw_key b = record { stages = raw_stages 8 b; specular_add = eqb (specular_byte false b) 1; projected = get_or b 57 0; wide = false }

-- some of these bytes is one that an op of three operands has
unfoldable pub any_byte_of_three : List ℕ → Bool
any_byte_of_three [] = false
any_byte_of_three (x ∷ r) = three_operands x || any_byte_of_three r

-- The reading rule: which locals a stage's expressions read, whether TEMP is live, which stages have a line, which lookups are marked.
-- 01: "The Rust searches text (`names_local`); this rule reads the key alone, and they agree."
use Rattle.std.specs.Prelude.{ℕ, suc, Bool, false, not, ◌&&◌, ◌||◌, cond, List, [], ◌∷◌, eqb}
use Rattle.combiners.specs.Codes.{disable, bump_env_map_luminance, texture, temp}
use Rattle.combiners.specs.Combiners.{keeps_first, keeps_second, reads_own_texel}
use Rattle.cascade.specs.Keys.{textured, to_temp, selects, some_counted, falls_back, is_bump_op, bump, alpha_from_colour}
use Rattle.values.specs.declared.Combiner.{Combiner}
use Rattle.values.specs.declared.Stage.{Stage}

-- the op keeps an argument that selects k
unfoldable pub keeps : ℕ → Bool → Combiner → Bool
keeps k tex c = some_counted (selects k) (keeps_first tex c.op) (keeps_second tex c.op) c

-- 01: "A fallback expression keeps no argument and reads `current` only. Any other expression reads a local if a kept argument selects it. With a
-- texture bound, ops 13 and 15 outside a fallback also read the stage's `t`."
abbrev pub reads_temp_by : Bool → Combiner → Bool
reads_temp_by tex c = not (falls_back tex c) && keeps temp tex c

abbrev pub reads_texel_by : Bool → Combiner → Bool
reads_texel_by tex c = not (falls_back tex c) && (keeps texture tex c || reads_own_texel tex c.op)

-- 01: "Alpha is one of: from colour .., kept (alpha op 1, or 22 or 23 without fallback), or an expression."
unfoldable pub alpha_written : Stage → Bool
alpha_written s =
    not (alpha_from_colour s) && (not (eqb s.alpha.op disable) && (falls_back (textured s) s.alpha || not (is_bump_op s.alpha.op)))

-- the expressions of a stage that is no bump stage read it: colour's, or alpha's where there is one
abbrev pub some_expression : (Bool → Combiner → Bool) → Stage → Bool
some_expression by s = by (textured s) s.colour || (alpha_written s && by (textured s) s.alpha)

unfoldable pub reads_temp : Stage → Bool
reads_temp s = some_expression reads_temp_by s

unfoldable pub reads_texel : Stage → Bool
reads_texel s = some_expression reads_texel_by s

-- 01: "TEMP is live if the expressions of some active stage, no bump stage, read it."
unfoldable pub live : List Stage → Bool
live [] = false
live (s ∷ r) = (not (bump s) && reads_temp s) || live r

-- 01: "A stage that writes a TEMP that is not live gives no line." (Of a stage that is no bump stage.)
unfoldable pub lined : Bool → Stage → Bool
lined alive s = not (to_temp s && not alive)

-- 01: "A lookup is marked for a stage with a line whose expressions read its `t`, and for a textured bump stage whose next stage is active and
-- marked." (Of the first of these stages.)
unfoldable pub marked : Bool → List Stage → Bool
marked alive [] = false
marked alive (s ∷ r) = cond (bump s) (textured s && marked alive r) (lined alive s && reads_texel s)

-- how many of these stages are marked
unfoldable pub lookups_of : Bool → List Stage → ℕ
lookups_of alive [] = 0
lookups_of alive (s ∷ r) = cond (marked alive (s ∷ r)) (suc (lookups_of alive r)) (lookups_of alive r)

abbrev pub luminance : Stage → Bool
luminance s = eqb s.colour.op bump_env_map_luminance

-- `bump_env` is declared where some active bump stage has a next stage that is marked, and has a texture or is op 23
unfoldable pub reads_bump_env : Bool → List Stage → Bool
reads_bump_env alive [] = false
reads_bump_env alive (s ∷ r) = (bump s && (marked alive r && (textured s || luminance s))) || reads_bump_env alive r

-- Keys and the cascade: active stages, what an op reads, the unbound fallback, bump stages, the mask and the row count.
use Rattle.std.specs.Prelude.{ℕ, suc, ◌+◌, ◌*◌, Bool, false, not, ◌&&◌, ◌||◌, cond, List, [], ◌∷◌, eqb}
use Rattle.combiners.specs.Codes.{bit, selector, disable, select_arg1, select_arg2, blend_factor_alpha, bump_env_map, bump_env_map_luminance, dot_product3, texture, factor, constant}
use Rattle.combiners.specs.Combiners.{three_operands}
use Rattle.values.specs.declared.Combiner.{Combiner}
use Rattle.values.specs.declared.Stage.{Stage}

-- 01: "Flag bit 0: a texture is bound; bit 1: the result goes to TEMP."
abbrev pub textured : Stage → Bool
textured s = bit s.flags 0

abbrev pub to_temp : Stage → Bool
to_temp s = bit s.flags 1

-- 01: "Active stages end before the first whose colour op is 1 (DISABLE)"
unfoldable pub active : List Stage → List Stage
active [] = []
active (s ∷ r) = cond (eqb s.colour.op disable) [] (s ∷ active r)

-- "the search for it leaves by break with the count, 8 if none"
unfoldable pub active_count : List Stage → ℕ
active_count [] = 0
active_count (s ∷ r) = cond (eqb s.colour.op disable) 0 (suc (active_count r))

-- 01: "An op reads an argument unless it is 1, or is 3 and the argument is the first, or is 2 and the argument is the second."
abbrev pub reads_first : ℕ → Bool
reads_first o = not (eqb o disable || eqb o select_arg2)

abbrev pub reads_second : ℕ → Bool
reads_second o = not (eqb o disable || eqb o select_arg1)

-- 01: "Selector: argument's low four bits." The argument selects k.
abbrev pub selects : ℕ → ℕ → Bool
selects k a = eqb (selector a) k

-- A fact of the third operand, argument 0. 02: "All three arguments .. count for fallback, liveness and rows; other ops ignore Z".
abbrev pub third : (ℕ → Bool) → Combiner → Bool
third f c = three_operands c.op && f c.arg0

-- a fact of one of the combiner's arguments
abbrev pub some : (ℕ → Bool) → Combiner → Bool
some f c = f c.arg1 || (f c.arg2 || third f c)

-- a fact of one of the arguments that count: the first and the second where a rule says that they do, argument 0 where the op has it
abbrev pub some_counted : (ℕ → Bool) → Bool → Bool → Combiner → Bool
some_counted f first second c = (first && f c.arg1) || ((second && f c.arg2) || third f c)

-- the op reads an argument that selects k
unfoldable pub reads : ℕ → Combiner → Bool
reads k c = some_counted (selects k) (reads_first c.op) (reads_second c.op) c

-- 01: "Unbound fallback: no texture, and the op reads an argument with selector 2."
unfoldable pub falls_back : Bool → Combiner → Bool
falls_back tex c = not tex && reads texture c

abbrev pub is_bump_op : ℕ → Bool
is_bump_op o = eqb o bump_env_map || eqb o bump_env_map_luminance

-- 01: "A bump stage has colour op 22 or 23 and no colour fallback."
unfoldable pub bump : Stage → Bool
bump s = is_bump_op s.colour.op && not (falls_back (textured s) s.colour)

-- 01: "from colour (op 24 without fallback)"
unfoldable pub alpha_from_colour : Stage → Bool
alpha_from_colour s = eqb s.colour.op dot_product3 && not (falls_back (textured s) s.colour)

-- the stages of which f holds as a mask, the first stage's bit the lowest
unfoldable pub stages_where : (Stage → Bool) → List Stage → ℕ
stages_where f [] = 0
stages_where f (s ∷ r) = cond (f s) 1 0 + 2 * stages_where f r

-- 01: "Mask: active stages with a texture"
abbrev pub mask_of : List Stage → ℕ
mask_of ss = stages_where textured ss

-- 01: "reads selector 6 outside a fallback and, in alpha, not from colour"
unfoldable pub reads_constant : Stage → Bool
reads_constant s =
    (not (falls_back (textured s) s.colour) && reads constant s.colour)
    || (not (alpha_from_colour s) && (not (falls_back (textured s) s.alpha) && reads constant s.alpha))

-- 01: "either op is 14, or a colour argument, or with alpha op not 1 an alpha argument, selects 3". 02: other ops ignore argument 0, "and so does the
-- row count there".
abbrev pub blends_by_factor : Stage → Bool
blends_by_factor s = eqb s.colour.op blend_factor_alpha || eqb s.alpha.op blend_factor_alpha

unfoldable pub names_factor : Stage → Bool
names_factor s =
    blends_by_factor s || (some (selects factor) s.colour || (not (eqb s.alpha.op disable) && some (selects factor) s.alpha))

-- the stage number plus 2 of the last stage that reads a constant, 0 if none does; i is the first stage's number
unfoldable pub last_constant : ℕ → List Stage → ℕ
last_constant i [] = 0
last_constant i (s ∷ r) = cond (eqb (last_constant (suc i) r) 0) (cond (reads_constant s) (i + 2) 0) (last_constant (suc i) r)

unfoldable pub any_factor : List Stage → Bool
any_factor [] = false
any_factor (s ∷ r) = names_factor s || any_factor r

-- 01: "Row count, as `constant_rows`: stage number plus 2 of the last active stage that reads selector 6 ..; with none, 1 if in some active
-- stage ..; else 0."
unfoldable pub rows_of : List Stage → ℕ
rows_of ss = cond (eqb (last_constant 0 ss) 0) (cond (any_factor ss) 1 0) (last_constant 0 ss)

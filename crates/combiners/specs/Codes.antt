-- The codes of operations, arguments and comparisons that the rules name, and the bits of a byte or a mask.
-- 01: "Operation, argument and comparison codes are Microsoft's Direct3D 9 ones"
use Rattle.std.specs.Prelude.{ℕ, ◌/◌, ◌%◌, ◌^◌, Bool, eqb}

-- bit i of m
abbrev pub bit : ℕ → ℕ → Bool
bit m i = eqb (m / 2 ^ i % 2) 1

-- D3DTOP
abbrev pub disable : ℕ
disable = 1

abbrev pub select_arg1 : ℕ
select_arg1 = 2

abbrev pub select_arg2 : ℕ
select_arg2 = 3

abbrev pub blend_texture_alpha : ℕ
blend_texture_alpha = 13

abbrev pub blend_factor_alpha : ℕ
blend_factor_alpha = 14

abbrev pub blend_texture_alpha_pm : ℕ
blend_texture_alpha_pm = 15

abbrev pub pre_modulate : ℕ
pre_modulate = 17

abbrev pub bump_env_map : ℕ
bump_env_map = 22

abbrev pub bump_env_map_luminance : ℕ
bump_env_map_luminance = 23

abbrev pub dot_product3 : ℕ
dot_product3 = 24

abbrev pub multiply_add : ℕ
multiply_add = 25

abbrev pub lerp : ℕ
lerp = 26

-- D3DTA: the selectors, and the bits of the two modifiers
abbrev pub texture : ℕ
texture = 2

abbrev pub factor : ℕ
factor = 3

abbrev pub temp : ℕ
temp = 5

abbrev pub constant : ℕ
constant = 6

abbrev pub complement_bit : ℕ
complement_bit = 4

abbrev pub replicate_bit : ℕ
replicate_bit = 5

-- D3DCMP
abbrev pub always : ℕ
always = 8

-- an argument's selector: its low four bits
abbrev pub selector : ℕ → ℕ
selector a = a % 16

-- For each kind of key a key and a variant whose text is as long as any.
-- 02, Fourteen: "with a key and variant that reach it"; "Of several pairs that reach it any will do".
use Rattle.std.specs.Prelude.{ℕ, Bool, true, cond, List, [], ◌∷◌}
use Rattle.values.specs.Kinds.{default_arg0}
use Rattle.values.specs.declared.Combiner.{Combiner}
use Rattle.values.specs.declared.Stage.{Stage}
use Rattle.values.specs.declared.Key.{Key}
use Rattle.values.specs.declared.Variant.{Variant}

-- an op with its arguments 1, 2 and 0
abbrev applied : ℕ → ℕ → ℕ → ℕ → Combiner
applied op a b z = record { op = op; arg1 = a; arg2 = b; arg0 = z }

-- a stage with a texture, whose result goes to CURRENT
abbrev drawn : Combiner → Combiner → Stage
drawn colour alpha = record { colour = colour; alpha = alpha; flags = 1 }

-- arguments with both modifiers: the texel, TEMP, and white
abbrev texel : ℕ
texel = 0x32

abbrev temp : ℕ
temp = 0x35

abbrev white : ℕ
white = 0x37

-- BUMPENVMAPLUMINANCE, alpha kept
abbrev bump_stage : Stage
bump_stage = drawn (applied 23 0 0 default_arg0) (applied 1 0 0 default_arg0)

-- Kind 1: bump stages, and behind them MODULATEINVALPHA_ADDCOLOR with DOTPRODUCT3 for alpha.
abbrev narrow_stages : List Stage
narrow_stages =
    bump_stage ∷ bump_stage ∷ bump_stage ∷ bump_stage ∷ bump_stage ∷ bump_stage ∷ bump_stage
    ∷ drawn (applied 20 white white default_arg0) (applied 24 texel temp default_arg0) ∷ []

-- Kind 6: LERP for colour and for alpha, and one bump stage, the first whose rows have two digits.
abbrev lerp_stage : ℕ → Stage
lerp_stage a = drawn (applied 26 texel white white) (applied 26 a white white)

abbrev wide_stages : List Stage
wide_stages =
    lerp_stage temp ∷ lerp_stage white ∷ lerp_stage white ∷ lerp_stage white ∷ lerp_stage white ∷ bump_stage ∷ lerp_stage white ∷ lerp_stage white ∷ []

abbrev pub longest_key : Bool → Key
longest_key wide = record { stages = cond wide wide_stages narrow_stages; specular_add = true; projected = 0xff; wide = wide }

-- the stages behind a bump stage, which gather alpha from a cube, and the others, which compare depths
abbrev gathering : Bool → ℕ
gathering wide = cond wide 0x40 0xfe

abbrev comparing : Bool → ℕ
comparing wide = cond wide 0xbf 0x01

-- tests equality, with linear fog, and with all flags but FOG_SOURCE_W
abbrev pub longest_variant : Bool → Variant
longest_variant wide =
    record {
      alpha_func = 3;
      fog_mode = 0;
      fog_table_mode = 3;
      depth_sampler = comparing wide;
      depth_fetch = 0;
      fetch4 = gathering wide;
      fetch4_alpha = gathering wide;
      raw_depth_red = 0;
      volume = 0;
      cube = gathering wide;
      sample_mask = 0xff;
      flags = 0x1f;
    }

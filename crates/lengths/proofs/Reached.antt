-- The greatest lengths are reached: the texts of the two witnesses, computed.
use Prim.Native.Nat.{◌+◌}
use mathlib.Core.Bool.{Bool, true, false}
use mathlib.Core.Path.{◌≡◌, refl}
use native.Mathlib.Omega.{arith}
use lib.Dec.{lit<}
use lib.ListN.{length}
use Rattle.text.specs.Text.{size, decimal_of}
use Rattle.text.proofs.Laws.{flat-length}
use Rattle.combiners.specs.Arguments.{texel_name, constant_row, source_text, replicated, arg_text}
use Rattle.combiners.specs.Combiners.{op_text, expression_text}
use Rattle.cascade.specs.Keys.{active, reads, falls_back, bump, alpha_from_colour}
use Rattle.cascade.specs.Effective.{effective_stages, active_stages, effective}
use Rattle.cascade.specs.Reading.{keeps, alpha_written, reads_temp, reads_texel, live, lined, marked, reads_bump_env}
use Rattle.cascade.specs.Stages.{expression_of, alpha_of, decode, line_text}
use Rattle.shader.specs.Lookups.{lookup_of, texture_type_of, texture_name, sampler_name, coordinate_text, lod_row, bump_row, level_text, quotient_text, uv_text, half_texel_text, gather_text, depth_text, compare_text, plain_text, texel_line, projected_line, lookup_text, before_of, divided_line, offset_text, moved_text, displaced_line, displacement_text, luminance_line, sample_text}
use Rattle.shader.specs.Output.{specular_text, fog_depth_text, fog_factor_text, fog_text, comparison_text, test_text, srgb_text, return_text, output_text}
use Rattle.shader.specs.Whole.{varyings_text, srgb_helper_text, fragment_text, front_text, stage_in_text, texture_parameter, sampler_parameter, samplers_text, parameters_text, sprite_line, sprite_text, stage_line, stages_text, locals_text, body_text, whole_text}
use Rattle.shader.specs.Results.{text_of}
use Rattle.shader.specs.Worked.{entry_m}
use Rattle.values.specs.Entries.{entry_good, all}
use Rattle.values.specs.declared.Entry.{Entry}
use Rattle.lengths.specs.Bounds.{greatest_length, Typed, Permitted}
use Rattle.lengths.specs.Witness.{longest_key, longest_variant}
use Rattle.lengths.proofs.Longest.{name-length}

pub typed : (wide : Bool) → Typed (longest_key wide) (longest_variant wide)
typed true = record { stages = refl; mask = lit< tt }
typed false = record { stages = refl; mask = lit< tt }

-- the entry `m` is permitted
pub permitted : Permitted entry_m
unfolding entry_good all
permitted = record { bytes = refl; good = tt }

-- the text before the entry, and behind it
front_size : (wide : Bool) → size (front_text (longest_variant wide)) ≡ 943
unfolding front_text varyings_text srgb_helper_text fragment_text
front_size wide = refl

body_size : (wide : Bool) → 943 + size (body_text (effective (longest_key wide)) (longest_variant wide) (active_stages (longest_key wide)))
    ≡ greatest_length wide 0
unfolding decimal_of
    texel_name constant_row source_text replicated arg_text op_text expression_text
    effective_stages active reads falls_back bump alpha_from_colour
    keeps alpha_written reads_temp reads_texel live lined marked reads_bump_env
    expression_of alpha_of decode line_text
    lookup_of texture_type_of texture_name sampler_name coordinate_text lod_row bump_row level_text quotient_text uv_text half_texel_text gather_text
    depth_text compare_text plain_text texel_line projected_line lookup_text before_of divided_line offset_text moved_text displaced_line
    displacement_text luminance_line sample_text
    specular_text fog_depth_text fog_factor_text fog_text comparison_text test_text srgb_text return_text output_text
    stage_in_text texture_parameter sampler_parameter samplers_text parameters_text sprite_line sprite_text stage_line stages_text locals_text body_text
body_size true = refl
body_size false = refl

pub reached : (wide : Bool) (e : Entry) → Permitted e → length (text_of (longest_key wide) (longest_variant wide) e) ≡ greatest_length wide e.len
unfolding whole_text
reached wide e p =
    omega (
      arith,
      flat-length (whole_text (effective (longest_key wide)) (longest_variant wide) e),
      front_size wide,
      body_size wide,
      name-length e p,
    )

-- The worked stages hold of the definitions: one computed test over the table.
use mathlib.Core.Bool.{true}
use mathlib.Core.Path.{◌≡◌, refl}
use Rattle.shader.specs.Worked.{table, table_holds}
use Rattle.text.specs.Text.{decimal_of}
use Rattle.combiners.specs.Arguments.{texel_name, constant_row, source_text, replicated, arg_text}
use Rattle.combiners.specs.Combiners.{op_text, expression_text}
use Rattle.cascade.specs.Keys.{active, reads, falls_back, bump, alpha_from_colour, stages_where, reads_constant, names_factor, last_constant, any_factor, rows_of}
use Rattle.cascade.specs.Effective.{effective_stages}
use Rattle.cascade.specs.Reading.{keeps, alpha_written, reads_temp, reads_texel, live, lined, marked, lookups_of, reads_bump_env}
use Rattle.cascade.specs.Stages.{expression_of, alpha_of, decode, line_text}
use Rattle.combiners.specs.Warnings.{applied_reports, reported, mask_from}
use Rattle.cascade.specs.Warnings.{applies_colour, applies_alpha, reports_from, warned_stages}
use Rattle.shader.specs.Lookups.{lookup_of, texture_type_of, texture_name, sampler_name, coordinate_text, lod_row, bump_row, level_text, quotient_text, uv_text, half_texel_text, gather_text, depth_text, compare_text, plain_text, texel_line, projected_line, lookup_text, before_of, divided_line, offset_text, moved_text, displaced_line, displacement_text, luminance_line, sample_text}
use Rattle.shader.specs.Output.{specular_text, fog_depth_text, fog_factor_text, fog_text, comparison_text, test_text, srgb_text, return_text, output_text}
use Rattle.shader.specs.Whole.{varyings_text, srgb_helper_text, fragment_text, front_text, stage_in_text, texture_parameter, sampler_parameter, samplers_text, parameters_text, sprite_line, sprite_text, stage_line, stages_text, locals_text, body_text, whole_text}

pub worked : table_holds table ≡ true
unfolding decimal_of
    texel_name constant_row source_text replicated arg_text op_text expression_text
    effective_stages active reads falls_back bump alpha_from_colour stages_where reads_constant names_factor last_constant any_factor rows_of
    keeps alpha_written reads_temp reads_texel live lined marked lookups_of reads_bump_env
    expression_of alpha_of decode line_text applies_colour applies_alpha
    applied_reports reported mask_from reports_from warned_stages
    lookup_of texture_type_of texture_name sampler_name coordinate_text lod_row bump_row level_text quotient_text uv_text half_texel_text gather_text
    depth_text compare_text plain_text texel_line projected_line lookup_text before_of divided_line offset_text moved_text displaced_line
    displacement_text luminance_line sample_text
    specular_text fog_depth_text fog_factor_text fog_text comparison_text test_text srgb_text return_text output_text
    varyings_text srgb_helper_text fragment_text front_text stage_in_text texture_parameter sampler_parameter samplers_text parameters_text
    sprite_line sprite_text stage_line stages_text locals_text body_text whole_text
worked = refl

-- What the program prints for no input, for an emit record alone, for write records, for a kind that there is not and for 01's example, with a key of
-- either kind, computed.
use mathlib.Core.Path.{◌≡◌, refl}
use mathlib.Core.List.{List, [], ◌∷◌, ◌++◌, map}
use Prim.Native.Nat.{ℕ}
use Prim.Native.Char.{code}
use lib.ListN.{replicate}
use Rattle.text.specs.Text.{decimal_of}
use Rattle.cascade.specs.Effective.{effective_stages}
use Rattle.cascade.specs.Keys.{active, stages_where, last_constant, any_factor, rows_of}
use Rattle.cascade.specs.Reading.{live, lookups_of, reads_bump_env}
use Rattle.combiners.specs.Warnings.{reported, mask_from}
use Rattle.cascade.specs.Warnings.{reports_from, warned_stages}
use Rattle.shader.specs.Output.{specular_text, fog_text, test_text, srgb_text, return_text, output_text}
use Rattle.values.specs.Flags.{stage_flags_bad}
use Rattle.values.specs.Entries.{all, entry_good}
use Rattle.values.specs.Words.{reserved_word}
use Rattle.shader.specs.Results.{answer_of}
use Rattle.shader.specs.Worked.{z1_lines, lines_of}
use Rattle.shader.specs.Whole.{varyings_text, srgb_helper_text, fragment_text, front_text, stage_in_text, samplers_text, parameters_text}
use Rattle.shader.specs.Whole.{sprite_text, stages_text, locals_text, body_text, whole_text}
use Rattle.wire.specs.Bodies.{stages_from_bytes, key_from_body, variant_from_body, entry_from_body}
use Rattle.wire.specs.Reading.{read_body, read_as, read_record}
use Rattle.states.specs.Writes.{checked_write}
use Rattle.wire.specs.Bodies.{state_from_body}
use Rattle.printout.specs.Program.{emit_line, end_line, refused_line, printed, printed_from, program_output}

nothing : program_output [] ≡ lines_of ("end 0" ∷ [])
unfolding program_output printed_from end_line decimal_of
nothing = refl

too_early : program_output (4 ∷ []) ≡ lines_of ("refused 7 at 0" ∷ [])
unfolding program_output printed_from printed refused_line decimal_of read_record read_as read_body
too_early = refl

-- 02, One: a write of colour op 4 at stage 0 is taken and prints nothing; an emit record behind it still lacks a variant and an entry; a write at stage
-- 8 is refused for its stage, whatever its type and value are
write_taken : program_output (5 ∷ 0 ∷ 1 ∷ 4 ∷ 0 ∷ 0 ∷ 0 ∷ []) ≡ lines_of ("end 0" ∷ [])
unfolding program_output printed_from printed end_line decimal_of read_record read_as read_body state_from_body checked_write
write_taken = refl

write_then_emit : program_output (5 ∷ 0 ∷ 1 ∷ 4 ∷ 0 ∷ 0 ∷ 0 ∷ 4 ∷ []) ≡ lines_of ("refused 7 at 7" ∷ [])
unfolding program_output printed_from printed refused_line decimal_of read_record read_as read_body state_from_body checked_write
write_then_emit = refl

write_refused : program_output (5 ∷ 8 ∷ 7 ∷ 0 ∷ 1 ∷ 0 ∷ 0 ∷ []) ≡ lines_of ("refused 10 at 0" ∷ [])
unfolding program_output printed_from printed refused_line decimal_of read_record read_as read_body state_from_body checked_write
write_refused = refl

-- 02, Nine: "kind 6 leaves 2"; 7 is still refused
no_kind : program_output (7 ∷ []) ≡ lines_of ("refused 2 at 0" ∷ [])
unfolding program_output printed_from printed refused_line decimal_of read_record
no_kind = refl

-- 01's example: "a key with stage 0 op 1 and all else 0, a zero variant, entry `m`, emit"
example : List ℕ → List ℕ
example k = k ++ (2 ∷ replicate 19 0) ++ (3 ∷ 1 ∷ code "m" ∷ replicate 31 0) ++ (4 ∷ [])

-- the output with such a key of kind 1, and with one of kind 6
keys : List (List ℕ)
keys = (1 ∷ 1 ∷ replicate 57 0) ∷ (6 ∷ 1 ∷ replicate 73 0) ∷ []

example_printed : map (λ k. program_output (example k)) keys ≡ replicate 2 (lines_of ("emit 0 0 0 0 0 0 0" ∷ (z1_lines ++ ("end 1" ∷ []))))
unfolding example keys program_output printed_from printed emit_line end_line decimal_of
    read_record read_as read_body
    key_from_body stages_from_bytes variant_from_body entry_from_body
    effective_stages active stages_where last_constant any_factor rows_of live lookups_of reads_bump_env reported mask_from reports_from warned_stages
    stage_flags_bad all entry_good reserved_word answer_of
    specular_text fog_text test_text srgb_text return_text output_text varyings_text srgb_helper_text fragment_text front_text stage_in_text samplers_text
    parameters_text sprite_text stages_text locals_text body_text whole_text
example_printed = refl

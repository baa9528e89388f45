-- What a key says before any byte of text: everything of the result but the text's length, and what the text needs to know of the whole cascade.
use Rattle.std.specs.Prelude.{ℕ, ◌+◌, ◌*◌, Bool, cond, List, [], ◌∷◌}
use Rattle.cascade.specs.Keys.{active, active_count, mask_of, rows_of}
use Rattle.cascade.specs.Reading.{live, marked, reads_bump_env}
use Rattle.cascade.specs.Warnings.{warnings_of}
use Rattle.values.specs.declared.Stage.{Stage}
use Rattle.cascade.specs.declared.Survey.{Survey}

-- the marked lookups, the first stage's bit the lowest
unfoldable pub marks_of : Bool → List Stage → ℕ
marks_of alive [] = 0
marks_of alive (s ∷ r) = cond (marked alive (s ∷ r)) 1 0 + 2 * marks_of alive r

unfoldable pub survey_of : List Stage → Survey
survey_of stages =
    record {
      count = active_count stages;
      mask = mask_of (active stages);
      rows = rows_of (active stages);
      warnings = warnings_of (active stages);
      live = live (active stages);
      marks = marks_of (live (active stages)) (active stages);
      bump_env = reads_bump_env (live (active stages)) (active stages);
    }

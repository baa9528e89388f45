-- What the walks over the stages carry from the last active stage to the first, and what a closure tests. Only contracts of private functions cite
-- it: it need not be believed.
use Rattle.std.specs.Prelude.{◌≡◌, ℕ, ◌+◌, ◌*◌, ◌%◌, Bool, not, ◌&&◌, ◌||◌, cond, List, ltb}
use Rattle.combiners.specs.Warnings.{Cause, op_cause, selector_cause, modifier_cause, without_text, unknown_selector, unknown_modifier}
use Rattle.cascade.specs.Keys.{textured, some, bump, stages_where, mask_of, reads_constant, names_factor, rows_of}
use Rattle.cascade.specs.Reading.{reads_temp, reads_texel, live, lined, marked, luminance, reads_bump_env}
use Rattle.cascade.specs.Warnings.{applies_colour, applies_alpha}
use Rattle.cascade.specs.Survey.{marks_of}
use Rattle.values.specs.declared.Combiner.{Combiner}
use Rattle.values.specs.declared.Stage.{Stage}
use Rattle.cascade.specs.declared.walks.Facts.{Facts}
use Rattle.cascade.specs.declared.walks.Marks.{Marks}

-- a closure answers as the test p
abbrev pub Tests : {A : Type 0} → (A → Bool → Type 0) → (A → Bool) → Type 0
Tests {A} answers p = (a : A) (r : Bool) → answers a r → r ≡ p a

-- a combiner gives a cause
abbrev pub gives : Cause → Combiner → Bool
gives op_cause c = without_text c.op
gives selector_cause c = some unknown_selector c
gives modifier_cause c = some unknown_modifier c

-- a stage applies a combiner of which p holds
abbrev pub applies : (Combiner → Bool) → Stage → Bool
applies p s = (applies_colour s && p s.colour) || (applies_alpha s && p s.alpha)

-- it warns of a cause: it applies a combiner that gives it
unfoldable pub warns : Cause → Stage → Bool
warns c s = applies (gives c) s

-- the mask of the stages behind one, with that one's bit in front of theirs, as a byte
abbrev pub mask_with : Bool → ℕ → ℕ
mask_with here behind = (cond here 1 0 + 2 * behind) % 256

-- the rows with one stage more in front, by whether it reads its constant or names the factor
abbrev pub rows_by : Bool → Bool → ℕ → ℕ
rows_by constant factor later = cond (ltb 1 later) ((later + 1) % 256) (cond constant 2 (cond factor 1 later))

-- the stages, each by itself, where the first is stage 0
unfoldable pub facts_of : List Stage → Facts
facts_of ss =
    record {
      mask = mask_of ss;
      rows = rows_of ss;
      live = live ss;
      warnings =
          record {
            op = stages_where (warns op_cause) ss;
            selector = stages_where (warns selector_cause) ss;
            modifier = stages_where (warns modifier_cause) ss;
          };
    }

-- the same with one stage more in front
abbrev pub add_fact : Stage → Facts → Facts
add_fact s f =
    record {
      mask = mask_with (textured s) f.mask;
      rows = rows_by (reads_constant s) (names_factor s) f.rows;
      live = (not (bump s) && reads_temp s) || f.live;
      warnings =
          record {
            op = mask_with (warns op_cause s) f.warnings.op;
            selector = mask_with (warns selector_cause s) f.warnings.selector;
            modifier = mask_with (warns modifier_cause s) f.warnings.modifier;
          };
    }

-- the stages once it is known whether TEMP is live
unfoldable pub marks_from : Bool → List Stage → Marks
marks_from alive ss = record { next = marked alive ss; marks = marks_of alive ss; bump_env = reads_bump_env alive ss }

-- whether a stage is marked, by whether the next one is
abbrev pub marked_by : Bool → Stage → Bool → Bool
marked_by alive s next = (bump s && (textured s && next)) || (not (bump s) && (lined alive s && reads_texel s))

-- the same with one stage more in front
abbrev pub add_mark : Bool → Stage → Marks → Marks
add_mark alive s m =
    record {
      next = marked_by alive s m.next;
      marks = mask_with (marked_by alive s m.next) m.marks;
      bump_env = (bump s && (m.next && (textured s || luminance s))) || m.bump_env;
    }

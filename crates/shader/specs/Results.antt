-- What emission from values answers, and what it leaves in the lent buffer.
use Rattle.std.specs.Prelude.{ℕ, Bool, not, cond, List, [], ◌++◌, leb, ltb, length, take, drop, Result, Ok, Err}
use Rattle.text.specs.Text.{flat}
use Rattle.combiners.specs.Codes.{always}
use Rattle.cascade.specs.Keys.{mask_of, rows_of}
use Rattle.cascade.specs.Effective.{active_stages, effective}
use Rattle.cascade.specs.Reading.{live, lookups_of}
use Rattle.cascade.specs.Warnings.{warnings_of}
use Rattle.values.specs.declared.Key.{Key}
use Rattle.values.specs.Flags.{stage_flags_bad, variant_flags_bad}
use Rattle.values.specs.Entries.{entry_good}
use Rattle.values.specs.Words.{entry_reserved}
use Rattle.shader.specs.Whole.{whole_text}
use Rattle.values.specs.declared.Variant.{Variant}
use Rattle.values.specs.declared.Entry.{Entry}
use Rattle.values.specs.declared.Emitted.{Emitted}
use Rattle.values.specs.declared.Refusal.{Refusal}
use Rattle.values.specs.declared.Refusal.TheVariants.{StageFlags, VariantFlags, EntryName, ReservedWord, NoRoom}

-- the bytes of the text
abbrev pub text_of : Key → Variant → Entry → List ℕ
text_of k v e = flat (whole_text (effective k) v e)

-- 01: "alpha function above 8"
abbrev pub alpha_warning : Variant → Bool
alpha_warning v = ltb always v.alpha_func

abbrev pub emitted_of : Key → Variant → Entry → Emitted
emitted_of k v e =
    record {
      length = length (text_of k v e);
      mask = mask_of (active_stages k);
      rows = rows_of (active_stages k);
      lookups = lookups_of (live (active_stages k)) (active_stages k);
      warnings = warnings_of (active_stages k);
      alpha_warning = alpha_warning v;
    }

-- 01: "Emission from values .. check 3, 5, 6 and 8 in that order"; 02 puts 13 behind 6. room is the buffer's length.
unfoldable pub answer_of : Key → Variant → Entry → ℕ → Result Emitted Refusal
answer_of k v e room =
    cond (stage_flags_bad k.stages) (Err StageFlags)
    (cond (variant_flags_bad v) (Err VariantFlags)
    (cond (not (entry_good e)) (Err EntryName)
    (cond (entry_reserved e) (Err ReservedWord)
    (cond (ltb room (length (text_of k v e))) (Err NoRoom) (Ok (emitted_of k v e))))))

-- the number that 01's table gives: 3 "a stage flag bit 2 to 7", 5 "variant flag bit 6 or 7", 6 for the entry, 13 for a
-- reserved word, 8 "text longer than the buffer", in that order; 0 where none of them holds
unfoldable pub emission_number : Key → Variant → Entry → ℕ → ℕ
emission_number k v e room =
    cond (stage_flags_bad k.stages) 3
    (cond (variant_flags_bad v) 5
    (cond (not (entry_good e)) 6
    (cond (entry_reserved e) 13
    (cond (ltb room (length (text_of k v e))) 8 0))))

-- 01: "The text begins the lent buffer; bytes behind it stay."
abbrev pub in_front : List ℕ → List ℕ → List ℕ
in_front text out = text ++ drop (length text) out

-- A refusal leaves all.
abbrev pub buffer_after : Result Emitted Refusal → List ℕ → List ℕ → List ℕ
buffer_after (Err c) text out = out
buffer_after (Ok m) text out = in_front text out

-- 01: "the written front of that buffer, an empty part for a length beyond it"
abbrev pub front_of : List ℕ → ℕ → List ℕ
front_of buf len = cond (leb len (length buf)) (take len buf) []

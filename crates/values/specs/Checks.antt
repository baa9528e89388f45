-- What a key, a variant and an entry are refused for: 3, 5, and 6 before 13.
use Rattle.std.specs.Prelude.{cond, Result, Ok, Err}
use Rattle.values.specs.Flags.{stage_flags_bad, variant_flags_bad}
use Rattle.values.specs.Entries.{entry_good}
use Rattle.values.specs.Words.{entry_reserved}
use Rattle.values.specs.Steps.{◌>>=◌}
use Rattle.values.specs.declared.Key.{Key}
use Rattle.values.specs.declared.Variant.{Variant}
use Rattle.values.specs.declared.Entry.{Entry}
use Rattle.values.specs.declared.Refusal.{Refusal}
use Rattle.values.specs.declared.Refusal.TheVariants.{StageFlags, VariantFlags, EntryName, ReservedWord}

-- 3, "a stage flag bit 2 to 7". 02, Nine: "Flags and specular are checked as for kind 1"
abbrev pub checked_key : Key → Result (Unit {0}) Refusal
checked_key k = cond (stage_flags_bad k.stages) (Err StageFlags) (Ok tt)

-- 5, "variant flag bit 6 or 7"
abbrev pub checked_variant : Variant → Result (Unit {0}) Refusal
checked_variant v = cond (variant_flags_bad v) (Err VariantFlags) (Ok tt)

-- 6, what is wrong with an entry, before 13, a word that it may not be
abbrev pub checked_entry : Entry → Result (Unit {0}) Refusal
checked_entry e = cond (entry_good e) (cond (entry_reserved e) (Err ReservedWord) (Ok tt)) (Err EntryName)

-- the three in 01's order
abbrev pub checked_values : Key → Variant → Entry → Result (Unit {0}) Refusal
checked_values k v e = do
  _ ← checked_key k
  _ ← checked_variant v
  checked_entry e

-- Values that are free of the causes 3, 5, 6 and 13: those that a reader has let pass, and that emission need not check again.
use Rattle.std.specs.Prelude.{true, false, ◌≡◌}
use Rattle.values.specs.declared.Key.{Key}
use Rattle.values.specs.declared.Variant.{Variant}
use Rattle.values.specs.declared.Entry.{Entry}
use Rattle.values.specs.Flags.{stage_flags_bad, variant_flags_bad}
use Rattle.values.specs.Entries.{entry_good}
use Rattle.values.specs.Words.{entry_reserved}

pub record Admitted (k : Key) (v : Variant) (e : Entry) : Type 0 where
  pub stage_flags : stage_flags_bad k.stages ≡ false
  pub variant_flags : variant_flags_bad v ≡ false
  pub entry_name : entry_good e ≡ true
  pub entry_word : entry_reserved e ≡ false

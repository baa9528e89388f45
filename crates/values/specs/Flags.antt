-- Flags that no stage and no variant has: causes 3 and 5.
use Rattle.std.specs.Prelude.{Bool, false, ◌||◌, List, [], ◌∷◌, leb}
use Rattle.values.specs.declared.Stage.{Stage}
use Rattle.values.specs.declared.Variant.{Variant}

-- 3: "a stage flag bit 2 to 7"
unfoldable pub stage_flags_bad : List Stage → Bool
stage_flags_bad [] = false
stage_flags_bad (s ∷ r) = leb 4 s.flags || stage_flags_bad r

-- 5: "variant flag bit 6 or 7"
abbrev pub variant_flags_bad : Variant → Bool
variant_flags_bad v = leb 64 v.flags

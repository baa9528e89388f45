-- Some stage has a bad flag, as the iterator tells.
use Rattle.std.proofs.Common.{◌≡◌, leb, List, [], ◌∷◌, sym, refl, ◌∙◌, rules, tests}
use Rattle.std.specs.List.{list_any}
use Rattle.std.proofs.lemmas.Iterator.{YieldsList-from_slice}
use Rattle.std.proofs.lemmas.Iterator.Search.{any_from_yields_List}
use Rattle.values.specs.declared.Stage.{Stage}
use Rattle.values.specs.Flags.{stage_flags_bad}
use Rattle.admission.proofs.stage_flags_bad.Goals as goal

some_bad : (l : List Stage) → stage_flags_bad l ≡ list_any (λ (s : Stage). leb 4 s.flags) l
unfolding stage_flags_bad
some_bad [] = refl
some_bad (s ∷ r) = rw (some_bad r)

pub returns : goal.returns
returns c =
    let l = c.args.stages.now in
    any_from_yields_List (λ (s : Stage). leb 4 s.flags) _ _ _ c.any.ensures.ran (YieldsList-from_slice l cc) (λ x b q k. search (rules, tests))
    ∙ sym (some_bad l)

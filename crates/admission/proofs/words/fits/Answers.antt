-- Words of one length are gone over beside each other; those of two lengths do not fit.
use Rattle.std.proofs.Common.{◌≡◌, ℕ, List, [], ◌∷◌, length, arith, rules, tests, refl, ◌∙◌, ne_eqb}
use Rattle.std.specs.Prelude.{zip}
use Rattle.std.specs.List.{list_all}
use Rattle.std.proofs.lemmas.Iterator.{YieldsList-from_slice, YieldsList-from_zip}
use Rattle.std.proofs.lemmas.Iterator.Search.{all_from_yields_List}
use Rattle.admission.specs.Patterns.{fits, fits_byte}
use Rattle.admission.proofs.Reserved.{another_length}
use Rattle.admission.proofs.words.fits.Goals as goal

side_by_side : (p w : List ℕ) → length p ≡ length w → list_all (λ (e : ℕ × ℕ). fits_byte e.0 e.1) (zip p w) ≡ fits p w
side_by_side [] [] h = refl
side_by_side [] (c ∷ w) h = absurd (omega arith)
side_by_side (x ∷ p) [] h = absurd (omega arith)
side_by_side (x ∷ p) (c ∷ w) h = rw (side_by_side p w (omega arith))

pub returns-then-pattern-name : goal.returns-then-pattern-name
returns-then-pattern-name c =
    let p = c.args.pattern.now in
    let w = c.args.name.now in
    all_from_yields_List (λ (e : ℕ × ℕ). fits_byte e.0 e.1) c.all.new.self _ _ c.all.ensures.ran
    (YieldsList-from_zip (YieldsList-from_slice p cc) (YieldsList-from_slice w cc)) (λ x b q k. search (rules, tests)) ∙ side_by_side p w c.if-pattern-name.true

pub returns-else-pattern-name : goal.returns-else-pattern-name
returns-else-pattern-name c =
    let other = c.if-pattern-name.false in
    rw (ne_eqb _ _ other, another_length c.args.pattern.now c.args.name.now other)

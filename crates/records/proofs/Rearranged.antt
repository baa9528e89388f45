-- Request Ten for what is held. A list of write records leaves what its writes make of the key, and all as it was where none of them is accepted. So
-- lists with the same last values leave the same.
use mathlib.Core.Path.{◌≡◌, refl, sym, ◌∙◌}
use mathlib.Core.Bool.{true, and-true}
use mathlib.Core.List.{List, [], ◌∷◌}
use Rattle.values.specs.declared.StateWrite.{StateWrite}
use Rattle.states.specs.Writes.{accepted}
use Rattle.states.specs.Rearranging.{MayChangePlaces}
use Rattle.states.proofs.SameLast.{SameLast, any_of, same_any, same_key}
use Rattle.states.proofs.Rearranged.{by_last}
use Rattle.records.specs.Applying.{nothing_held, key_or_defaults}
use Rattle.records.specs.declared.Held.{Held}
use Rattle.records.proofs.Room.{EightStages, nothing_held_eight, start_eight}
use Rattle.records.proofs.Writes.{any_accepted, held_behind, left_behind}

accepted_any : (ws : List StateWrite) → any_accepted ws ≡ any_of (λ t. true) ws
unfolding any_of
accepted_any [] = refl
accepted_any (w ∷ r) = rw (and-true (accepted w), accepted_any r)

pub same_accepted : (ws xs : List StateWrite) → SameLast ws xs → any_accepted ws ≡ any_accepted xs
same_accepted ws xs s = accepted_any ws ∙ same_any (λ t. true) ws xs s ∙ sym (accepted_any xs)

pub same_held : (ws xs : List StateWrite) (h : Held) → EightStages h → SameLast ws xs → held_behind ws h ≡ held_behind xs h
same_held ws xs h eight s =
    left_behind ws h ∙ rw (same_accepted ws xs s, same_key ws xs (key_or_defaults h) (start_eight h eight) s) (sym (left_behind xs h))

-- The law, of what is held.
pub of_held : (h : Held) → EightStages h → MayChangePlaces held_behind h
of_held h eight = by_last held_behind h (λ ws xs. same_held ws xs h eight)

-- with nothing held before; an empty list leaves nothing held
pub of_nothing : MayChangePlaces held_behind nothing_held
of_nothing = of_held nothing_held nothing_held_eight

pub still_nothing : held_behind [] nothing_held ≡ nothing_held
unfolding held_behind
still_nothing = refl

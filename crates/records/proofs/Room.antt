-- A held key has eight stages, so that a buffer of 16,384 bytes takes its text: there no record is refused with 8.
use mathlib.Core.Path.{◌≡◌, refl, sym, ◌∙◌}
use mathlib.Core.Bool.{Bool, true, false, not, cond, true≢false}
use mathlib.Core.List.{List, [], ◌∷◌}
use Prim.Native.Nat.{ℕ, ◌≤◌}
use native.Mathlib.Omega.{arith}
use borrow.Author.Tests.{ne_eqb}
use lib.Dec.{eqb, ltb}
use lib.ListN.{length, get_or}
use Rattle.std.specs.Prelude.{Option, Some, None, IfSome, Result}
use Rattle.std.proofs.lemmas.Bool.{cond_both}
use Rattle.values.specs.Flags.{stage_flags_bad, variant_flags_bad}
use Rattle.values.specs.Entries.{entry_good}
use Rattle.values.specs.Words.{entry_reserved}
use Rattle.values.specs.Refusals.{answer_number}
use Rattle.values.specs.declared.Key.{Key}
use Rattle.values.specs.declared.Variant.{Variant}
use Rattle.values.specs.declared.Entry.{Entry}
use Rattle.values.specs.declared.Refusal.{Refusal}
use Rattle.values.specs.declared.StateWrite.{StateWrite}
use Rattle.states.specs.Types.{is_type, takes}
use Rattle.states.specs.Writes.{state_write_number}
use Rattle.states.proofs.Keys.{defaults_eight, kept}
use Rattle.lengths.proofs.Room.{never_eight}
use Rattle.wire.specs.Bodies.{body_length, specular_byte, key_from_body, variant_from_body, entry_from_body, state_from_body}
use Rattle.wire.specs.Reading.{number_by, key_number, body_number, record_number}
use Rattle.wire.specs.declared.Kind.{Kind}
use Rattle.wire.specs.declared.Kind.TheVariants as kind
use Rattle.wire.specs.declared.Record.{Record}
use Rattle.wire.specs.declared.Record.TheVariants as rec
use Rattle.wire.specs.declared.Reading.{Reading}
use Rattle.wire.proofs.Bodies.{Shaped}
use Rattle.wire.proofs.Found.{kind_cases, read_either}
use Rattle.records.specs.Applying.{nothing_held, all_of, or_defaults, key_or_defaults, holding, held_by, held_after, apply_answer}
use Rattle.records.specs.Applying.{values_number, emit_number, applied_number}
use Rattle.records.specs.declared.Held.{Held}
use Rattle.records.proofs.Answers.{applied_number_lem}

abbrev pub EightStages : Held → Type 0
EightStages h = IfSome h.key (λ k. length k.stages ≡ 8)

pub nothing_held_eight : EightStages nothing_held
nothing_held_eight = tt

-- a write alters one stage of eight
pub start_eight : (h : Held) → EightStages h → length (key_or_defaults h).stages ≡ 8
start_eight h = go h.key
  where
    go : (k : Option Key) → IfSome k (λ k. length k.stages ≡ 8) → length (or_defaults k).stages ≡ 8
    go None t = defaults_eight
    go (Some k) t = t

holding_eight : (r : Record) (h : Held) → Shaped r → EightStages h → EightStages (holding r h)
holding_eight (rec.Key k) h s t = s
holding_eight (rec.Variant v) h s t = t
holding_eight (rec.Entry e) h s t = t
holding_eight rec.Emit h s t = t
holding_eight (rec.State w) h s t = let e = start_eight h t in (kept w (key_or_defaults h) e).stages ∙ e
holding_eight (rec.WideKey k) h s t = s

pub applied_eight : (h : Held) (b : List ℕ) → EightStages h → EightStages (held_after h b)
applied_eight h b t = read_either (λ (x : Result Reading Refusal). EightStages (held_by x h)) b (λ c n. t) (λ r s. holding_eight r h s.shaped t)

-- Which numbers are not 8: of a choice both, of the reader all, of an emit record those that leave room.
abbrev NotEight : ℕ → Type 0
NotEight n = eqb n 8 ≡ false

neither : (t : Bool) (x y : ℕ) → NotEight x → NotEight y → NotEight (cond t x y)
neither t x y p q = cond_both t x y NotEight (λ _. p) (λ _. q)

write_number_lem : (w : StateWrite) → NotEight (state_write_number w)
unfolding state_write_number
write_number_lem w =
    neither (ltb 7 w.stage) 10 _ refl
    (neither (not (is_type w.state)) 11 _ refl (neither (not (takes w.state w.value)) 12 0 refl refl))

key_number_lem : (wide : Bool) (b : List ℕ) → NotEight (key_number wide b)
key_number_lem wide b = neither (stage_flags_bad (key_from_body wide b).stages) 3 _ refl (neither (ltb 1 (specular_byte wide b)) 4 0 refl refl)

body_number_lem : (k : Kind) (b : List ℕ) → NotEight (body_number k b)
unfolding body_number
body_number_lem kind.Key b = key_number_lem false b
body_number_lem kind.Variant b = neither (variant_flags_bad (variant_from_body b)) 5 0 refl refl
body_number_lem kind.Entry b = neither (entry_good (entry_from_body b)) _ 6 (neither (entry_reserved (entry_from_body b)) 13 0 refl refl) refl
body_number_lem kind.Emit b = refl
body_number_lem kind.State b = write_number_lem (state_from_body b)
body_number_lem kind.WideKey b = key_number_lem true b

record_number_lem : (b : List ℕ) → NotEight (record_number b)
unfolding record_number
record_number_lem [] = refl
record_number_lem (x ∷ b) = kind_cases (λ (a : Result Kind Refusal). NotEight (number_by a whole_number)) x (λ k _. whole k) refl
  where
    whole_number : Kind → ℕ
    whole_number k = cond (ltb (length b) (body_length k)) 1 (body_number k b)

    whole : (k : Kind) → NotEight (whole_number k)
    whole k = neither (ltb (length b) (body_length k)) 1 _ refl (body_number_lem k b)

module _ (h : Held) (stages : EightStages h) (room : ℕ) (enough : 16384 ≤ room) where
  emit_number_lem : NotEight (emit_number h room)
  emit_number_lem = go h.key h.variant h.entry stages
    where
      go : (k : Option Key) (v : Option Variant) (e : Option Entry) → IfSome k (λ k. length k.stages ≡ 8) → NotEight (values_number (all_of k v e) room)
      go None v e s = refl
      go (Some k) None e s = refl
      go (Some k) (Some v) None s = refl
      go (Some k) (Some v) (Some e) s = ne_eqb _ _ (never_eight k v e room (omega (arith, s)) enough)

  number : (b : List ℕ) → NotEight (applied_number h b room)
  number b = neither (eqb (record_number b) 0) _ _ (neither (eqb (get_or b 0 0) 4) _ 0 emit_number_lem refl) (record_number_lem b)

  pub applied_never_eight : (b : List ℕ) → answer_number (apply_answer h b room) ≡ 8 → ⊥
  applied_never_eight b e =
      let n : applied_number h b room ≡ 8 = sym (applied_number_lem h b room refl) ∙ e in
      true≢false (rw n at (number b))

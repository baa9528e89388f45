-- A key of kind 1 read as its bytes lie, without an op of three operands, is emitted in the place of the key that they stand for; and one of kind 6 as it is.
use Prim.Native.Nat.{ℕ, zero, suc, ◌<◌}
use mathlib.Core.Bool.{Bool, true, false, not, ◌&&◌, ◌||◌, cond, true≢false}
use mathlib.Core.Path.{◌≡◌, refl, sym, ap, ◌∙◌}
use mathlib.Core.List.{List, [], ◌∷◌}
use native.Mathlib.Omega.{arith}
use lib.ListN.{take, get_or}
use lib.Seq.{get_or-drop, get_or-take}
use Rattle.combiners.specs.Combiners.{three_operands}
use Rattle.values.specs.Flags.{stage_flags_bad}
use Rattle.values.specs.Kinds.{narrow}
use Rattle.values.specs.declared.Key.{Key}
use Rattle.values.specs.declared.Variant.{Variant}
use Rattle.values.specs.declared.Entry.{Entry}
use Rattle.cascade.specs.Effective.{effective_stages, effective, any_of_three}
use Rattle.cascade.proofs.Narrowing.{effective_alike}
use Rattle.shader.specs.Results.{text_of, emitted_of}
use Rattle.shader.proofs.Narrow.{kind_one_text, kind_one_emitted}
use Rattle.emission.proofs.InPlace.{InPlace, effective_in_place}
use Rattle.wire.specs.Bodies.{stages_from_bytes, key_from_body}
use Rattle.yuzuknoll.specs.Emitting.{key_read}
use Rattle.inspection.specs.Raw.{raw_stages, raw_key, any_byte_of_three}

neither_of : (a b : Bool) → (a || b) ≡ false → (a ≡ false) × (b ≡ false)
neither_of true b e = absurd (true≢false e)
neither_of false b e = (refl, e)

-- with the default for its arguments 0 it is the key that the bytes stand for
narrow_raw : (b : List ℕ) → narrow (raw_key b) ≡ key_from_body false b
unfolding raw_key raw_stages key_from_body stages_from_bytes
narrow_raw b = simp get_or-drop

raw_flags : (b : List ℕ) → stage_flags_bad (raw_key b).stages ≡ stage_flags_bad (key_from_body false b).stages
unfolding raw_key raw_stages key_from_body stages_from_bytes stage_flags_bad
raw_flags b = simp get_or-drop

-- where no byte is one of an op of three operands, no op is
none : (l : List ℕ) → any_byte_of_three l ≡ false → (i : ℕ) → three_operands (get_or l i 0) ≡ false
unfolding any_byte_of_three
none [] h i = refl
none (x ∷ r) h zero = (neither_of (three_operands x) _ h).0
none (x ∷ r) h (suc i) = none r (neither_of (three_operands x) _ h).1 i

no_op_of_three : (b : List ℕ) → any_byte_of_three (take 56 b) ≡ false → any_of_three (raw_stages 8 b) ≡ false
unfolding any_of_three raw_stages
no_op_of_three b h =
    let at : (i : ℕ) → i < 56 → three_operands (get_or b i 0) ≡ false = λ i l. ap three_operands (sym (get_or-take 56 b i 0 l)) ∙ none (take 56 b) h i in
    simp (
      get_or-drop,
      at 0 (omega arith),
      at 3 (omega arith),
      at 7 (omega arith),
      at 10 (omega arith),
      at 14 (omega arith),
      at 17 (omega arith),
      at 21 (omega
          arith),
      at 24 (omega arith),
      at 28 (omega arith),
      at 31 (omega arith),
      at 35 (omega arith),
      at 38 (omega arith),
      at 42 (omega arith),
      at 45
          (omega arith),
      at 49 (omega arith),
      at 52 (omega arith),
    )

raw_kind : (b : List ℕ) → (raw_key b).wide ≡ false
unfolding raw_key
raw_kind b = refl

raw_alike : (b : List ℕ) → any_of_three (raw_stages 8 b) ≡ false → effective_stages (raw_key b) ≡ (raw_key b).stages
unfolding raw_key
raw_alike b h = effective_alike (raw_key b) refl h

module _ (b : List ℕ) (v : Variant) (e : Entry) where
  raw_text : text_of (raw_key b) v e ≡ text_of (key_from_body false b) v e
  raw_text = sym (kind_one_text (raw_key b) (raw_kind b) v e) ∙ ap (λ (k : Key). text_of k v e) (narrow_raw b)

  raw_emitted : emitted_of (raw_key b) v e ≡ emitted_of (key_from_body false b) v e
  raw_emitted = sym (kind_one_emitted (raw_key b) (raw_kind b) v e) ∙ ap (λ (k : Key). emitted_of k v e) (narrow_raw b)

  pub raw_in_place : any_byte_of_three (take 56 b) ≡ false → InPlace (raw_key b) (key_from_body false b) v e
  raw_in_place h = record { as_it_is = raw_alike b (no_op_of_three b h); same_flags = raw_flags b; same_text = raw_text; same_emitted = raw_emitted }

  pub wide_in_place : InPlace (key_from_body true b) (key_from_body true b) v e
  unfolding effective_stages key_from_body
  wide_in_place = record { as_it_is = refl; same_flags = refl; same_text = refl; same_emitted = refl }

-- The key of a body as it is emitted: as it was read first where no op has three operands, else as it takes effect.
module _ (wide : Bool) (b : List ℕ) where
  abbrev pub emitted_key : Key
  emitted_key = cond (not wide && any_byte_of_three (take 56 b)) (effective (key_from_body false b)) (key_read wide b)

  pub emitted_in_place : (v : Variant) (e : Entry) → InPlace emitted_key (key_from_body wide b) v e
  emitted_in_place v e = go wide _ refl
    where
      go : (w three : Bool) → any_byte_of_three (take 56 b) ≡ three
          → InPlace (cond (not w && three) (effective (key_from_body false b)) (key_read w b)) (key_from_body w b) v e
      go true three h = wide_in_place b v e
      go false true h = effective_in_place (key_from_body false b) v e
      go false false h = raw_in_place b v e h

-- What emission promises of its answer, said by numbers; and that bodies without a cause stand for values that emission need not check.
use Prim.Native.Nat.{ℕ}
use mathlib.Core.Bool.{Bool, true, false, not, cond}
use mathlib.Core.Path.{◌≡◌, refl, sym, ap, ◌∙◌}
use mathlib.Core.List.{List}
use native.Mathlib.Omega.{arith}
use lib.Dec.{eqb, ltb}
use lib.ListN.{length}
use Rattle.std.specs.Prelude.{Result, Ok, Err}
use Rattle.values.specs.Refusals.{answer_number}
use Rattle.values.specs.Flags.{stage_flags_bad, variant_flags_bad}
use Rattle.values.specs.Entries.{entry_good}
use Rattle.values.specs.Words.{entry_reserved}
use Rattle.values.specs.Admitted.{Admitted}
use Rattle.values.specs.declared.Key.{Key}
use Rattle.values.specs.declared.Variant.{Variant}
use Rattle.values.specs.declared.Entry.{Entry}
use Rattle.values.specs.declared.Emitted.{Emitted}
use Rattle.values.specs.declared.Refusal.{Refusal}
use Rattle.values.specs.declared.Refusal.TheVariants.{StageFlags, VariantFlags, EntryName, ReservedWord, NoRoom}
use Rattle.shader.specs.Results.{emitted_of, text_of, answer_of, emission_number, buffer_after}
use Rattle.shader.specs.Demand.{Demanded}
use Rattle.emission.proofs.InPlace.{InPlace, place_number, place_demand}
use Rattle.wire.specs.Bodies.{key_kind, specular_byte, key_from_body, variant_from_body, entry_from_body}
use Rattle.wire.specs.Reading.{body_number}
use Rattle.wire.specs.declared.Kind.TheVariants as kind
use Rattle.yuzuknoll.specs.Lent.{after, first_of, at_front, result_numbers, ReportedDemands}
use Rattle.yuzuknoll.specs.Emitting.{bodies_number, bodies_text, bodies_result}
use Rattle.yuzuknoll.proofs.Lent.{left, first_refused, first_passed, first_zero}

-- yes as 1 and no as 0 tells which it was
told : (b : Bool) → eqb (cond b 1 0) 1 ≡ b
told true = refl
told false = refl

-- What emission from values leaves, by its number n: the text in out' and its result in res'.
module _ (k : Key) (v : Variant) (e : Entry) (out res : List ℕ) where
  abbrev pub Emits : ℕ → List ℕ → List ℕ → Type 0
  Emits n out' res' =
      (n ≡ emission_number k v e (length out))
      × ((out' ≡ after n (at_front (text_of k v e) out) out)
      × ((res' ≡ after n (result_numbers (emitted_of k v e)) res) × (n ≡ 0 → ReportedDemands k out' res')))

  -- emission's own promise
  abbrev Promise : Result Emitted Refusal → List ℕ → Type 0
  Promise a out' =
      (a ≡ answer_of k v e (length out))
      × ((out' ≡ buffer_after a (text_of k v e) out) × (Demanded k a out' × (answer_number a ≡ emission_number k v e (length out))))

  picked : (three five six thirteen eight : Bool) (x m : Emitted) →
      cond three (Err StageFlags) (cond five (Err VariantFlags) (cond six (Err EntryName) (cond thirteen (Err ReservedWord)
      (cond eight (Err NoRoom) (Ok x))))) ≡ Ok m
      → m ≡ x
  picked true five six thirteen eight x m g = cc
  picked false true six thirteen eight x m g = cc
  picked false false true thirteen eight x m g = cc
  picked false false false true eight x m g = cc
  picked false false false false true x m g = cc
  picked false false false false false x m g = cc

  accepted : {m : Emitted} → answer_of k v e (length out) ≡ Ok m → m ≡ emitted_of k v e
  unfolding answer_of
  accepted g =
      picked (stage_flags_bad k.stages) (variant_flags_bad v) (not (entry_good e)) (entry_reserved e) (ltb (length out) (length (text_of k v e))) _ _ g

  pub emission_accepted : {a : Result Emitted Refusal} {out' res' : List ℕ} {m : Emitted} → Promise a out' → a ≡ Ok m → res' ≡ result_numbers m
      → Emits 0 out' res'
  emission_accepted p g q =
      let p' = rw g at p in
      (p'.1.1.1, (p'.1.0, (q ∙ ap result_numbers (accepted (sym p'.0)), λ z. rw (q, told) p'.1.1.0)))

-- A key in the place of another is emitted as that one is.
module _ {r k : Key} {v : Variant} {e : Entry} (p : InPlace r k v e) where
  pub place_emits : (out res : List ℕ) {n : ℕ} {out' res' : List ℕ} → Emits r v e out res n out' res' → Emits k v e out res n out' res'
  place_emits out res {n} s =
      let texts = ap (λ (t : List ℕ). after n (at_front t out) out) p.same_text in
      let results = ap (λ (m : Emitted). after n (result_numbers m) res) p.same_emitted in
      (s.0 ∙ place_number p (length out), (s.1.0 ∙ texts, (s.1.1.0 ∙ results, λ z. place_demand p (s.1.1.1 z))))

-- What the numbers of bodies tell of their values.

abbrev of_key : Bool → Bool → ℕ
of_key three four = cond three 3 (cond four 4 0)

abbrev of_variant : Bool → ℕ
of_variant five = cond five 5 0

abbrev of_entry : Bool → Bool → ℕ
of_entry good word = cond good (cond word 13 0) 6

-- the first cause of the three bodies
abbrev of_bodies : Bool → Bool → Bool → Bool → Bool → ℕ
of_bodies three four five good word = first_of (of_key three four) (first_of (of_variant five) (of_entry good word))

-- emission's own causes stand behind the key's, and 8 behind all that the bodies have
behind : (three four five good word eight : Bool) →
    first_of (of_key three four) (cond three 3 (cond five 5 (cond (not good) 6 (cond word 13 (cond eight 8 0)))))
    ≡ first_of (of_bodies three four five good word) (cond eight 8 0)
behind true four five good word eight = refl
behind false true five good word eight = refl
behind false false true good word eight = refl
behind false false false true true eight = refl
behind false false false true false eight = refl
behind false false false false word eight = refl

-- A key's number, of either kind, is told by its flags and its specular byte.
module _ (wide : Bool) (k : List ℕ) where
  abbrev flags_bad : Bool
  flags_bad = stage_flags_bad (key_from_body wide k).stages

  abbrev specular_bad : Bool
  specular_bad = ltb 1 (specular_byte wide k)

key_cause_lem : (wide : Bool) (k : List ℕ) → body_number (key_kind wide) k ≡ of_key (flags_bad wide k) (specular_bad wide k)
unfolding body_number
key_cause_lem true k = refl
key_cause_lem false k = refl

key_bits : (three four : Bool) → of_key three four ≡ 0 → three ≡ false
key_bits true four e = absurd (omega arith)
key_bits false four e = refl

variant_bits : (five : Bool) → of_variant five ≡ 0 → five ≡ false
variant_bits true e = absurd (omega arith)
variant_bits false e = refl

entry_bits : (good word : Bool) → of_entry good word ≡ 0 → (good ≡ true) × (word ≡ false)
entry_bits true false e = (refl, refl)
entry_bits true true e = absurd (omega arith)
entry_bits false word e = absurd (omega arith)

-- Bodies without a cause stand for values without one.

pub body_free : (wide : Bool) (k : List ℕ) → body_number (key_kind wide) k ≡ 0 → stage_flags_bad (key_from_body wide k).stages ≡ false
body_free wide k p = key_bits (flags_bad wide k) (specular_bad wide k) (sym (key_cause_lem wide k) ∙ p)

pub admitted : (key : Key) → stage_flags_bad key.stages ≡ false → (v e : List ℕ) → body_number kind.Variant v ≡ 0 → body_number kind.Entry e ≡ 0
    → Admitted key (variant_from_body v) (entry_from_body e)
unfolding body_number
admitted key free v e q r =
    let named = entry_bits (entry_good (entry_from_body e)) (entry_reserved (entry_from_body e)) r in
    record {
      stage_flags = free;
      variant_flags = variant_bits (variant_flags_bad (variant_from_body v)) q;
      entry_name = named.0;
      entry_word = named.1;
    }

-- Emission from three bodies.
module _ (wide : Bool) (k v e : List ℕ) where
  abbrev key : Key
  key = key_from_body wide k

  abbrev variant : Variant
  variant = variant_from_body v

  abbrev entry : Entry
  entry = entry_from_body e

  -- the causes that the bodies have by themselves, and the first of them
  abbrev key_cause : ℕ
  key_cause = body_number (key_kind wide) k

  abbrev other_cause : ℕ
  other_cause = first_of (body_number kind.Variant v) (body_number kind.Entry e)

  abbrev pub cause : ℕ
  cause = first_of key_cause other_cause

  pub bodies_admitted : {variant' : Variant} {entry' : Entry} → cause ≡ 0 → variant' ≡ variant → entry' ≡ entry → Admitted key variant' entry'
  bodies_admitted z g h =
      let t = first_zero key_cause other_cause z in
      let u = first_zero (body_number kind.Variant v) (body_number kind.Entry e) t.1 in
      rw (g, h) (admitted key (body_free wide k t.0) v e u.0 u.1)

  number : (room : ℕ) → bodies_number wide k v e room ≡ first_of cause (cond (ltb room (length (text_of key variant entry))) 8 0)
  unfolding body_number emission_number
  number room =
      rw (key_cause_lem wide k)
      (behind (flags_bad wide k) (specular_bad wide k) (variant_flags_bad variant) (entry_good entry) (entry_reserved entry)
      (ltb room (length (text_of key variant entry))))

  module _ (out res : List ℕ) where
    abbrev Answered : ℕ → List ℕ → List ℕ → Type 0
    Answered n out' res' =
        (n ≡ bodies_number wide k v e (length out))
        × ((out' ≡ after n (at_front (bodies_text wide k v e) out) out)
        × ((res' ≡ after n (bodies_result wide k v e) res) × (n ≡ 0 → ReportedDemands key out' res')))

    module _ {a : ℕ} (p : a ≡ cause) where
      pub bodies_refused : (a ≡ 0 → ⊥) → Answered a out res
      bodies_refused h = (first_refused _ p h ∙ sym (number (length out)), (left _ out h, (left _ res h, λ z. absurd (h z))))

      -- where the bodies have no cause, emission answers what they answer
      pub bodies_emitted : {n : ℕ} {out' res' : List ℕ} {variant' : Variant} {entry' : Entry} → a ≡ 0 → variant' ≡ variant → entry' ≡ entry
          → Emits key variant' entry' out res n out' res' → Answered n out' res'
      bodies_emitted z g h s =
          let t = rw (g, h) at s in (first_passed {n = key_cause} refl (first_zero key_cause other_cause (sym p ∙ z)).0 t.0, t.1)

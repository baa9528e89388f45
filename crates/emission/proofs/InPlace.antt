-- A key whose stages take effect as they are, and whose text and result are those of another, is emitted in the place of that one.
use Prim.Native.Nat.{ℕ}
use mathlib.Core.Path.{◌≡◌, ap, sym, ◌∙◌}
use mathlib.Core.List.{List}
use Rattle.cascade.specs.Effective.{effective_stages, effective}
use Rattle.cascade.proofs.Narrowing.{effective_twice, effective_flags}
use Rattle.values.specs.Flags.{stage_flags_bad}
use Rattle.values.specs.Admitted.{Admitted}
use Rattle.values.specs.declared.Key.{Key}
use Rattle.values.specs.declared.Variant.{Variant}
use Rattle.values.specs.declared.Entry.{Entry}
use Rattle.values.specs.declared.Emitted.{Emitted}
use Rattle.values.specs.declared.Refusal.{Refusal}
use Rattle.std.specs.Prelude.{Result, Ok, Err}
use Rattle.shader.specs.Results.{text_of, emitted_of, answer_of, emission_number}
use Rattle.shader.specs.Demand.{Demand3, Demands, Demanded, marked_stages}

-- with this variant and entry r is emitted in the place of k
pub record InPlace (r k : Key) (v : Variant) (e : Entry) : Type 0 where
  pub as_it_is : effective_stages r ≡ r.stages
  pub same_flags : stage_flags_bad r.stages ≡ stage_flags_bad k.stages
  pub same_text : text_of r v e ≡ text_of k v e
  pub same_emitted : emitted_of r v e ≡ emitted_of k v e

pub effective_in_place : (k : Key) (v : Variant) (e : Entry) → InPlace (effective k) k v e
effective_in_place k v e =
    record {
      as_it_is = effective_twice k;
      same_flags = effective_flags k;
      same_text = rw (effective_twice k);
      same_emitted = rw (effective_twice k);
    }

module _ {r k : Key} {v : Variant} {e : Entry} (p : InPlace r k v e) where
  -- the lookups of a result are the marked stages
  same_marks : marked_stages r ≡ marked_stages k
  same_marks = ap (λ (m : Emitted). m.lookups) p.same_emitted

  place_demand3 : {text : List ℕ} {m : Emitted} → Demand3 r text m → Demand3 k text m
  place_demand3 d =
      record {
        declared_before = d.declared_before;
        declared_once = d.declared_once;
        rows_counted = d.rows_counted;
        lookups_written = d.lookups_written;
        lookups_marked = sym same_marks ∙ d.lookups_marked;
        lookups_masked = d.lookups_masked;
      }

  pub place_demand : {text : List ℕ} {m : Emitted} → Demands r text m → Demands k text m
  place_demand d = record { demand3 = place_demand3 d.demand3; no_idle = d.no_idle }

  pub place_demanded : (a : Result Emitted Refusal) (out : List ℕ) → Demanded r a out → Demanded k a out
  place_demanded (Ok m) out d = place_demand d
  place_demanded (Err c) out d = tt

  pub place_admitted : Admitted k v e → Admitted r v e
  place_admitted h =
      record { stage_flags = p.same_flags ∙ h.stage_flags; variant_flags = h.variant_flags; entry_name = h.entry_name; entry_word = h.entry_word }

  pub place_answer : (room : ℕ) → answer_of r v e room ≡ answer_of k v e room
  unfolding answer_of
  place_answer room = rw (p.same_flags, p.same_emitted, p.same_text)

  pub place_number : (room : ℕ) → emission_number r v e room ≡ emission_number k v e room
  unfolding emission_number
  place_number room = rw (p.same_flags, p.same_text)

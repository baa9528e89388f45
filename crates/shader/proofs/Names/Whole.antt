-- The check of the whole text: demand 3, and that no local is idle.
use Prim.Native.Nat.{ℕ, ◌≤◌}
use mathlib.Core.Path.{◌≡◌, refl, subst}
use mathlib.Core.List.{List, [], append-nil}
use mathlib.Core.Bool.{Bool}
use native.Mathlib.Omega.{arith}
use lib.Dec.{T, lit≤}
use lib.ListN.{length}
use Rattle.std.specs.Prelude.{None}
use Rattle.text.specs.Text.{bytes, flat}
use Rattle.cascade.specs.Keys.{rows_of}
use Rattle.cascade.specs.Effective.{effective_stages, active_stages, effective}
use Rattle.cascade.proofs.Narrowing.{effective-length}
use Rattle.cascade.specs.Reading.{live, lookups_of}
use Rattle.values.specs.declared.Stage.{Stage}
use Rattle.values.specs.declared.Key.{Key}
use Rattle.shader.specs.Output.{point_sprite, output_text}
use Rattle.shader.specs.Whole.{parameters_text, sprite_text, locals_text, stages_text, body_text}
use Rattle.values.specs.Entries.{entry_good}
use Rattle.shader.specs.Results.{text_of, emitted_of}
use Rattle.values.specs.declared.Variant.{Variant}
use Rattle.values.specs.declared.Entry.{Entry}
use Rattle.values.specs.Listed.{Name}
use Rattle.shader.specs.Names.{tokens, Occurrence, occurrences}
use Rattle.shader.specs.Idle.{watched, used, NoIdle}
use Rattle.shader.specs.Demand.{Demand3, Demands}
use Rattle.shader.proofs.Names.Truth.{inl, implied}
use Rattle.shader.proofs.Names.Scan.{scan, scan_occurs}
use Rattle.shader.proofs.Names.Check.{Aim, Known, Holds, declaring, nothing, checked_before, checked_once, checked_rows, checked_lookups, checked_may}
use Rattle.shader.proofs.Names.Frag.{Has, has_more, Reads, literal, ◌⨾◌}
use Rattle.shader.proofs.Names.Words.{the}
use Rattle.shader.proofs.Names.Order.{aim}
use Rattle.shader.proofs.Names.Rules.{Enabled, active_enabled, active_short, lookups_masked_lem, rows_last, rows_factor}
use Rattle.shader.proofs.Names.Stages.{textured_more, later, Env, stages_read}
use Rattle.shader.proofs.Names.Output.{output_reads}
use Rattle.shader.proofs.Names.Signature.{optional, optional_reads, optional_more, within, within_more, sprite_reads}
use Rattle.shader.proofs.Names.Parameters.{parameters_pass}
use Rattle.shader.proofs.Names.Idle.{used_behind}
use Rattle.shader.proofs.Names.Mentions.{Mentions, Inside, mentions_left, mentions_right}
use Rattle.shader.proofs.Names.Locals.{stages_temp, stages_env}
use Rattle.shader.proofs.Names.Counted.{counted_body}

-- Everything from the `(` behind the entry on, for stages that are active.
module _ (k : Key) (v : Variant) (ss : List Stage) (l : length ss ≤ 8) (enabled : Enabled ss) (named : Name → Bool) where
  abbrev sprite : Bool
  sprite = point_sprite v

  abbrev alive : Bool
  alive = live ss

  abbrev rows : ℕ
  rows = rows_of ss

  abbrev total : ℕ
  total = lookups_of alive ss

  abbrev A : Aim
  A = aim sprite rows total named

  locals_read : (K : Known) → K.next ≤ 31 → T (K.has (the "in")) → (T alive → T (named (the "temp")))
      → Reads A K [] (flat (locals_text alive)) (optional A alive (the "temp") (declaring A (the "current") K)) []
  unfolding locals_text
  locals_read K p i w =
      literal {K' = declaring A (the "current") K} {b' = []} {x = bytes "    float4 current = in.color0;\n"} (λ r k. ((p, tt), (i, k)))
      ⨾ optional_reads alive (the "temp") (bytes "    float4 temp = float4(0.0);\n") tt (lit≤ tt)
      (λ t. literal (λ r k. ((lit≤ tt, w t), k)))

  -- what the stages use, the text uses
  stages_inside : {n : Name} → Mentions n (flat (stages_text v k.projected alive None 0 ss)) → Mentions n (flat (body_text k v ss))
  unfolding body_text
  stages_inside m =
      mentions_right (flat (parameters_text v ss))
      (mentions_right (flat (sprite_text sprite))
      (mentions_right (flat (locals_text alive)) (mentions_left (flat (output_text k.specular_add v)) m)))

  body_holds : Inside named (flat (body_text k v ss)) → Holds A nothing (scan [] (tokens (flat (body_text k v ss))))
  unfolding body_text
  body_holds w =
      let inside : Inside named (flat (stages_text v k.projected alive None 0 ss)) = λ n m. w n (stages_inside m) in
      let g = parameters_pass v ss rows total named l (λ t. inside (the "bump_env") (stages_env v k.projected alive ss None 0 t)) in
      let given = g.gives in
      let K₁ : Known = within rows total named g.known in
      let K₂ : Known = declaring A (the "current") K₁ in
      let K₃ : Known = optional A alive (the "temp") K₂ in
      let more : Has g.known K₃ =
      λ n t. optional_more A alive (the "temp") K₂ n (has_more A (the "current") K₁ n (within_more rows total named g.known n t)) in
      let env : Env sprite rows total named v k.projected alive K₃ None 0 ss =
      record {
        small = omega arith;
        free = lit≤ tt;
        base = record { is_in = tt; is_current = tt; is_table = more (the "ps_c") given.is_table };
        is_temp = λ t. inl alive _ t;
        is_lod = λ t. more (the "lod_bias") (given.is_lod t);
        is_bump = λ t. more (the "bump_env") (given.is_bump t);
        is_textured = textured_more g.known K₃ more 0 ss given.is_textured;
        behind = λ t. tt;
        temps = λ t. t;
        constants = rows_last ss;
        factors = rows_factor ss;
        enabled = enabled;
        count = omega (arith, g.same);
        inside = inside;
      } in
      let whole =
      g.reads
      ⨾ sprite_reads rows total named sprite g.known (omega (arith, g.lower)) given.is_stage given.is_point given.is_in
      ⨾ locals_read K₁ (lit≤ tt) tt (λ t. inside (the "temp") (stages_temp v k.projected alive t ss None 0 t))
      ⨾ stages_read sprite rows total named v k.projected alive ss None 0 K₃ env
      ⨾ output_reads sprite rows total named k.specular_add v (later 72 total K₃) (lit≤ tt) tt tt
      (λ t. more (the "alpha_ref") (given.is_alpha t)) (λ t. more (the "fog_data") (given.is_fog t)) in
      rw append-nil at (whole.on [] refl)

-- The check of a key's text, for every key of at most eight stages, every variant and every admitted entry.
module _ (k : Key) (v : Variant) (e : Entry) (l : length k.stages ≤ 8) (t : T (entry_good e)) where
  abbrev ss : List Stage
  ss = active_stages k

  abbrev found : List Occurrence
  found = occurrences (text_of k v e)

  abbrev whole : Aim
  whole = aim (point_sprite v) (rows_of ss) (lookups_of (live ss) ss) (λ n. used n found)

  short : length ss ≤ 8
  short = omega (arith, active_short (effective_stages k), effective-length k)

  scanned : scan [] (tokens (flat (body_text (effective k) v ss))) ≡ found
  scanned = rw (counted_body (effective k) v e t) (scan_occurs (tokens (flat (body_text (effective k) v ss))) [])

  mentioned : Inside (λ n. used n found) (flat (body_text (effective k) v ss))
  mentioned n m = subst (λ (x : List Occurrence). T (used n x)) scanned (rw append-nil at (m.on [] []))

  holds : Holds whole nothing found
  holds =
      subst (Holds whole nothing) scanned
      (body_holds (effective k) v ss short (active_enabled (effective_stages k)) (λ n. used n found) mentioned)

  demand3 : Demand3 k (text_of k v e) (emitted_of k v e)
  demand3 =
      record {
        declared_before = checked_before whole found holds;
        declared_once = checked_once whole found holds;
        rows_counted = checked_rows whole found holds;
        lookups_written = checked_lookups whole found holds;
        lookups_marked = refl;
        lookups_masked = lookups_masked_lem (live ss) 8 ss short (active_enabled (effective_stages k));
      }

  -- by demand 3 it is enough that a name that is declared is used
  no_idle_lem : NoIdle (text_of k v e)
  no_idle_lem n before behind w is =
      used_behind n found (checked_before whole found holds n) (checked_once whole found holds n)
      (implied (watched n) (used n found) (checked_may whole found holds n before behind is) w) before behind is

  pub demand : Demands k (text_of k v e) (emitted_of k v e)
  demand = record { demand3 = demand3; no_idle = no_idle_lem }

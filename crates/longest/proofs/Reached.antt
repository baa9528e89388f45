-- What is promised of the printed bytes holds: the reader takes the records back, and their text is the longest.
use Prim.Native.Nat.{ℕ, ◌≤◌}
use mathlib.Core.Bool.{false}
use mathlib.Core.Path.{◌≡◌, refl, ap, subst, ◌∙◌}
use lib.ListN.{length}
use Rattle.shader.specs.Results.{text_of}
use Rattle.values.specs.Flags.{stage_flags_bad}
use Rattle.values.specs.declared.Key.{Key}
use Rattle.values.specs.declared.Variant.{Variant}
use Rattle.values.specs.declared.Entry.{Entry}
use Rattle.wire.specs.Bodies.{stages_bytes, key_bytes, stages_from_bytes, key_from_body, variant_bytes, variant_from_body, body_bytes, record_bytes}
use Rattle.wire.specs.Values.{key_record}
use Rattle.wire.specs.declared.Record.TheVariants as rec
use Rattle.wire.specs.Reading.{read_body, read_as, read_record, took}
use Rattle.lengths.specs.Bounds.{greatest_length, Typed, Permitted}
use Rattle.lengths.specs.Witness.{longest_key, longest_variant}
use Rattle.lengths.proofs.Longest.{at_most_greatest}
use Rattle.lengths.proofs.Reached.{reached}
use Rattle.longest.specs.Lines.{longest_lines, Longest}

key-read : read_record (record_bytes (key_record (longest_key false))) ≡ took (key_record (longest_key false))
unfolding body_bytes key_bytes stages_bytes read_record read_as read_body key_from_body stages_from_bytes stage_flags_bad
key-read = refl

variant-read : read_record (record_bytes (rec.Variant (longest_variant false))) ≡ took (rec.Variant (longest_variant false))
unfolding body_bytes variant_bytes read_record read_as read_body variant_from_body
variant-read = refl

none_longer_lem : (k : Key) (v : Variant) (e : Entry) → Typed k v → k.wide ≡ false → Permitted e → e.len ≡ 1 → length (text_of k v e) ≤ greatest_length false 1
none_longer_lem k v e t narrow p one =
    let bound : greatest_length k.wide e.len ≡ greatest_length false 1 = rw (narrow, one) in
    subst (λ (n : ℕ). length (text_of k v e) ≤ n) bound (at_most_greatest k v e t p)

pub longest : Longest longest_lines
unfolding longest_lines
longest =
    record {
      size = greatest_length false 1;
      key_bytes = record_bytes (key_record (longest_key false));
      variant_bytes = record_bytes (rec.Variant (longest_variant false));
      key = longest_key false;
      variant = longest_variant false;
      lines = refl;
      key_read = key-read;
      variant_read = variant-read;
      of_kind_one = refl;
      reached = λ e p one. reached false e p ∙ ap (greatest_length false) one;
      none_longer = none_longer_lem;
    }

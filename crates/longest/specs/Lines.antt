-- What the program prints, and what is promised of it.
-- 02, Fourteen: "A program prints three lines: that length, decimal, then the key record and the variant record, in lower-case hexadecimal without gaps."
use Rattle.std.specs.Prelude.{ℕ, ◌/◌, ◌%◌, ◌≤◌, false, ◌≡◌, List, [], ◌∷◌, length, get_or}
use Rattle.text.specs.Text.{raw, bytes, flat, decimal}
use Rattle.text.specs.Format.{format, ◌≔◌}
use Rattle.shader.specs.Results.{text_of}
use Rattle.values.specs.declared.Key.{Key}
use Rattle.values.specs.declared.Variant.{Variant}
use Rattle.values.specs.declared.Entry.{Entry}
use Rattle.wire.specs.Bodies.{record_bytes}
use Rattle.wire.specs.Values.{key_record}
use Rattle.wire.specs.declared.Record.TheVariants as rec
use Rattle.wire.specs.Reading.{read_record, took}
use Rattle.lengths.specs.Bounds.{greatest_length, Typed, Permitted}
use Rattle.lengths.specs.Witness.{longest_key, longest_variant}

-- each byte as two digits, the high one first
abbrev pub hex_digit : ℕ → ℕ
hex_digit n = get_or (bytes "0123456789abcdef") n 0

abbrev pub hexadecimal : List ℕ → List ℕ
hexadecimal [] = []
hexadecimal (b ∷ r) = hex_digit (b / 16) ∷ hex_digit (b % 16) ∷ hexadecimal r

abbrev pub three_lines : ℕ → List ℕ → List ℕ → List ℕ
three_lines n key variant =
    flat
    (format "{length}\n{key}\n{variant}\n"
    (("length" ≔ decimal n) ∷ ("key" ≔ raw (hexadecimal key)) ∷ ("variant" ≔ raw (hexadecimal variant)) ∷ []))

unfoldable pub longest_lines : List ℕ
longest_lines = three_lines (greatest_length false 1) (record_bytes (key_record (longest_key false))) (record_bytes (rec.Variant (longest_variant false)))

-- What is promised of printed bytes: they are three lines, and the reader takes the records that two of them show for a key of kind 1 and a variant, whose
-- text with an entry of one byte has the length that the first shows; no text of a key of kind 1 with such an entry is longer.
pub record Longest (out : List ℕ) : Type 0 where
  pub size : ℕ
  pub key_bytes : List ℕ
  pub variant_bytes : List ℕ
  pub key : Key
  pub variant : Variant
  pub lines : out ≡ three_lines size key_bytes variant_bytes
  pub key_read : read_record key_bytes ≡ took (key_record key)
  pub variant_read : read_record variant_bytes ≡ took (rec.Variant variant)
  pub of_kind_one : key.wide ≡ false
  pub reached : (e : Entry) → Permitted e → e.len ≡ 1 → length (text_of key variant e) ≡ size
  pub none_longer : (k : Key) (v : Variant) (e : Entry) → Typed k v → k.wide ≡ false → Permitted e → e.len ≡ 1 → length (text_of k v e) ≤ size

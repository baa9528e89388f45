-- "Every record written reads back as itself; every record read writes back to its bytes."
use mathlib.Core.Path.{◌≡◌, refl, ap, ◌∙◌}
use mathlib.Core.Bool.{Bool, true, false}
use mathlib.Core.List.{List, ◌++◌}
use Prim.Native.Nat.{ℕ, ◌≤◌}
use native.Mathlib.Omega.{arith}
use borrow.Author.Tests.{le-ltb}
use lib.Dec.{ltb}
use lib.ListN.{length, take, drop, length-append}
use lib.Seq.{length-take-le}
use Rattle.std.specs.Prelude.{Result, Ok}
use Rattle.values.specs.declared.Refusal.{Refusal}
use Rattle.values.specs.declared.Key.{Key}
use Rattle.values.specs.declared.Variant.{Variant}
use Rattle.values.specs.declared.Entry.{Entry}
use Rattle.values.specs.declared.StateWrite.{StateWrite}
use Rattle.wire.specs.Bodies.{kind_byte, kind_of, body_length, record_length, body_bytes, record_bytes}
use Rattle.wire.specs.Values.{key_as, key_record, own}
use Rattle.values.specs.Steps.{◌>>=◌}
use Rattle.wire.specs.Causes.{checked_record}
use Rattle.wire.specs.Reading.{kind_from, took, specular_in, read_body, read_as, read_record}
use Rattle.wire.specs.Writing.{write_answer, after_writing}
use Rattle.wire.specs.declared.Kind.{Kind}
use Rattle.wire.specs.declared.Kind.TheVariants as kind
use Rattle.wire.specs.declared.Record.{Record}
use Rattle.wire.specs.declared.Record.TheVariants as rec
use Rattle.wire.specs.declared.Reading.{Reading}
use Rattle.wire.proofs.Bodies.{Shaped, Bytes, of_either, key_shaped, body-length, record_back, specular_back}
use Rattle.wire.proofs.Causes.{free_checks, own_free}
use Rattle.wire.proofs.Found.{read_taken}
use Rattle.wire.proofs.Written.{fits_writes, wrote}

pub kind_known : (k : Kind) → kind_from (kind_byte k) ≡ Ok k
kind_known kind.Key = refl
kind_known kind.Variant = refl
kind_known kind.Entry = refl
kind_known kind.Emit = refl
kind_known kind.State = refl
kind_known kind.WideKey = refl

own_kind : (r : Record) → kind_of (own r) ≡ kind_of r
own_kind (rec.Key k) = refl
own_kind (rec.Variant v) = refl
own_kind (rec.Entry e) = refl
own_kind rec.Emit = refl
own_kind (rec.State w) = refl
own_kind (rec.WideKey k) = refl

specular_reads : (r : Record) (x : List ℕ) → Shaped r → ltb 1 (specular_in (kind_of r) (body_bytes r ++ x)) ≡ false
unfolding body_bytes
specular_reads (rec.Key k) x h = specular_back false k x h
specular_reads (rec.Variant v) x h = refl
specular_reads (rec.Entry e) x h = refl
specular_reads rec.Emit x h = refl
specular_reads (rec.State w) x h = refl
specular_reads (rec.WideKey k) x h = specular_back true k x h

-- Bytes of a record, followed by anything, are read as what the record has of its value, unless that has a cause.
module _ (r : Record) (x : List ℕ) (h : Shaped r) where
  body_reads : read_body (kind_of r) (body_bytes r ++ x) ≡ (checked_record (own r) >>= (λ _. took (own r)))
  unfolding read_body
  body_reads = simp (record_back r x h, specular_reads r x h)

  as_reads : read_as (kind_of r) (body_bytes r ++ x) ≡ (checked_record (own r) >>= (λ _. took (own r)))
  unfolding read_as
  as_reads =
      rw (le-ltb (length (body_bytes r ++ x)) (body_length (kind_of r)) (simp length-append (omega (arith, body-length r h)))) body_reads

  pub bytes_read : read_record (record_bytes r ++ x) ≡ (checked_record (own r) >>= (λ _. took (own r)))
  unfolding read_record
  bytes_read = rw (kind_known (kind_of r)) as_reads

-- what is read of n bytes
abbrev Reads : Record → ℕ → Result Reading Refusal
Reads r n = Ok (record { «record» = r; length = n })

-- Every record written reads back as what it has of its value.
pub own_reads_back : (r : Record) (out : List ℕ) (n : ℕ) → Shaped r → write_answer r (length out) ≡ Ok n →
    read_record (after_writing (Ok n) (record_bytes r) out) ≡ Ok (record { «record» = own r; length = n })
own_reads_back r out n h a =
    let w = wrote r (length out) n a in
    bytes_read r _ h ∙ rw (free_checks (own r) (own_free r w.0.free)) (ap (Reads (own r)) (ap record_length (own_kind r) ∙ w.1))

-- Wherever the writer writes r, the reader finds f, in as many bytes as were written.
abbrev pub ReadsAs : Record → Record → Type 0
ReadsAs r f = (out : List ℕ) (n : ℕ) → write_answer r (length out) ≡ Ok n →
    read_record (after_writing (Ok n) (record_bytes r) out) ≡ Ok (record { «record» = f; length = n })

abbrev pub ReadsBack : Record → Type 0
ReadsBack r = ReadsAs r r

-- "Every record written reads back as itself": every record that has all of its value, as each has but one of a key of the other kind or, of kind 1, with
-- arguments 0 other than their default.
pub written_reads_back : (r : Record) → own r ≡ r → Shaped r → ReadsBack r
written_reads_back r e h out n a = own_reads_back r out n h a ∙ ap (λ (r : Record). Reads r n) e

-- So a variant, an entry, a request for a text and a state write do, and a key of kind 6. A key of kind 1 comes back as what kind 1 has of it: itself,
-- but that its arguments 0 are their default.
pub key_reads_back : (k : Key) → length k.stages ≡ 8 → ReadsAs (key_record k) (key_record (key_as k.wide k))
key_reads_back k h out n a =
    let e = of_either (λ (wide : Bool) (r : Record). own r ≡ key_record (key_as wide k)) k refl refl in
    own_reads_back (key_record k) out n (key_shaped k h) a ∙ ap (λ (r : Record). Reads r n) e

pub wide_key_reads_back : (k : Key) → length k.stages ≡ 8 → k.wide ≡ true → ReadsBack (key_record k)
wide_key_reads_back k h w = written_reads_back (key_record k) (rw w) (key_shaped k h)

pub variant_reads_back : (v : Variant) → ReadsBack (rec.Variant v)
variant_reads_back v = written_reads_back (rec.Variant v) refl tt

pub entry_reads_back : (e : Entry) → length e.name ≡ 32 → ReadsBack (rec.Entry e)
entry_reads_back e h = written_reads_back (rec.Entry e) refl h

pub emit_reads_back : ReadsBack rec.Emit
emit_reads_back = written_reads_back rec.Emit refl tt

pub state_reads_back : (w : StateWrite) → ReadsBack (rec.State w)
state_reads_back w = written_reads_back (rec.State w) refl tt

-- The record that was read from b can be written into every buffer that has room for its bytes, and gives these bytes again.
abbrev pub WritesBack : List ℕ → Type 0
WritesBack b = (out : List ℕ) (r : Reading) → read_record b ≡ Ok r → r.length ≤ length out →
    (write_answer r.«record» (length out) ≡ Ok r.length)
    × (after_writing (Ok r.length) (record_bytes r.«record») out ≡ take r.length b ++ drop r.length out)

-- "every record read writes back to its bytes"
pub read_writes_back : (b : List ℕ) → Bytes b → WritesBack b
read_writes_back b h out r a room =
    let t = read_taken b r a in
    let n = r.length in
    let e : record_bytes r.«record» ≡ take n b = t.0.bytes h ∙ ap (λ (m : ℕ). take m b) t.1 in
    let within : n ≤ length b = omega (arith, t.0.within, t.1) in (
      fits_writes r.«record» (length out) t.0.free (omega (arith, t.1)) ∙ ap Ok t.1,
      ap (λ (l : List ℕ). l ++ drop (length l) out) e ∙ ap (λ (i : ℕ). take n b ++ drop i out) (length-take-le n b within),
    )

-- and reads back as itself
pub read_settled : (b : List ℕ) (r : Reading) → read_record b ≡ Ok r → own r.«record» ≡ r.«record»
read_settled b r a = (read_taken b r a).0.settled

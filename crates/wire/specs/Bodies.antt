-- The bytes of a record, and the values that the bytes of a body stand for. What stands behind a body is not looked at.
use Rattle.std.specs.Prelude.{ℕ, zero, suc, ◌+◌, ◌*◌, ◌/◌, ◌%◌, Bool, true, false, cond, List, [], ◌∷◌, ◌++◌, eqb, take, drop, get_or}
use Rattle.values.specs.declared.Stage.{Stage}
use Rattle.values.specs.declared.Key.{Key}
use Rattle.values.specs.declared.Variant.{Variant}
use Rattle.values.specs.declared.Entry.{Entry}
use Rattle.values.specs.declared.StateWrite.{StateWrite}
use Rattle.values.specs.Kinds.{default_arg0}
use Rattle.wire.specs.declared.Kind.{Kind}
use Rattle.wire.specs.declared.Kind.TheVariants as kind
use Rattle.wire.specs.declared.Record.{Record}
use Rattle.wire.specs.declared.Record.TheVariants as rec

-- 01: "A kind byte": "1, key", "2, variant", "3, entry", "4, emit"; 02, One: "kind 5"; Nine: "Kind 6 is a key of 74 bytes"
abbrev pub kind_byte : Kind → ℕ
kind_byte kind.Key = 1
kind_byte kind.Variant = 2
kind_byte kind.Entry = 3
kind_byte kind.Emit = 4
kind_byte kind.State = 5
kind_byte kind.WideKey = 6

-- "then a body": "key, 58 bytes", "variant, 19", "entry, 33", "emit, 0 bytes"; 02, One: "body 6"
abbrev pub body_length : Kind → ℕ
body_length kind.Key = 58
body_length kind.Variant = 19
body_length kind.Entry = 33
body_length kind.Emit = 0
body_length kind.State = 6
body_length kind.WideKey = 74

-- the kind byte and the body
abbrev pub record_length : Kind → ℕ
record_length k = 1 + body_length k

-- the kind of a record
abbrev pub kind_of : Record → Kind
kind_of (rec.Key k) = kind.Key
kind_of (rec.Variant v) = kind.Variant
kind_of (rec.Entry e) = kind.Entry
kind_of rec.Emit = kind.Emit
kind_of (rec.State w) = kind.State
kind_of (rec.WideKey k) = kind.WideKey

-- The two kinds of key: wide is true for kind 6 and false for kind 1.
abbrev pub key_kind : Bool → Kind
key_kind wide = cond wide kind.WideKey kind.Key

-- 01: "A stage is seven bytes: colour op, its arguments 1 and 2, alpha op, its arguments 1 and 2, flags." 02, Nine: "stages of nine, with colour
-- argument 0 and alpha argument 0 before the flags"
abbrev pub stage_size : Bool → ℕ
stage_size wide = cond wide 9 7

abbrev pub stage_bytes : Bool → Stage → List ℕ
stage_bytes wide s =
    s.colour.op ∷ s.colour.arg1 ∷ s.colour.arg2 ∷ s.alpha.op ∷ s.alpha.arg1 ∷ s.alpha.arg2
    ∷ cond wide (s.colour.arg0 ∷ s.alpha.arg0 ∷ s.flags ∷ []) (s.flags ∷ [])

-- a stage of seven bytes has the default for its arguments 0
abbrev pub stage_from_bytes : Bool → List ℕ → Stage
stage_from_bytes wide b =
    record {
      colour = record { op = get_or b 0 0; arg1 = get_or b 1 0; arg2 = get_or b 2 0; arg0 = cond wide (get_or b 6 0) default_arg0 };
      alpha = record { op = get_or b 3 0; arg1 = get_or b 4 0; arg2 = get_or b 5 0; arg0 = cond wide (get_or b 7 0) default_arg0 };
      flags = get_or b (cond wide 8 6) 0;
    }

-- stages one behind another
unfoldable pub stages_bytes : Bool → List Stage → List ℕ
stages_bytes wide [] = []
stages_bytes wide (s ∷ r) = stage_bytes wide s ++ stages_bytes wide r

-- the first n stages
unfoldable pub stages_from_bytes : Bool → ℕ → List ℕ → List Stage
stages_from_bytes wide zero b = []
stages_from_bytes wide (suc n) b = stage_from_bytes wide b ∷ stages_from_bytes wide n (drop (stage_size wide) b)

-- 01: "stages, specular 0 or 1, projected mask"; 02, Nine: "then the two last bytes of kind 1"
unfoldable pub key_bytes : Bool → Key → List ℕ
key_bytes wide k = stages_bytes wide k.stages ++ (cond k.specular_add 1 0 ∷ k.projected ∷ [])

-- where the first of these two stands
abbrev pub specular_at : Bool → ℕ
specular_at wide = cond wide 72 56

abbrev pub specular_byte : Bool → List ℕ → ℕ
specular_byte wide b = get_or b (specular_at wide) 0

unfoldable pub key_from_body : Bool → List ℕ → Key
key_from_body wide b =
    record {
      stages = stages_from_bytes wide 8 b;
      specular_add = eqb (specular_byte wide b) 1;
      projected = get_or b (specular_at wide + 1) 0;
      wide = wide;
    }

-- 01: "16-bit masks, low byte first"
abbrev pub mask_bytes : ℕ → List ℕ
mask_bytes m = m % 256 ∷ m / 256 ∷ []

-- the mask whose low byte is byte i
abbrev pub mask_at : List ℕ → ℕ → ℕ
mask_at b i = get_or b i 0 + 256 * get_or b (i + 1) 0

-- 01: "depth_sampler, depth_fetch, fetch4, fetch4_alpha, raw_depth_red, volume, cube"
abbrev pub masks_bytes : Variant → List ℕ
masks_bytes v =
    mask_bytes v.depth_sampler
    ++ mask_bytes v.depth_fetch
    ++ mask_bytes v.fetch4
    ++ mask_bytes v.fetch4_alpha
    ++ mask_bytes v.raw_depth_red
    ++ mask_bytes v.volume
    ++ mask_bytes v.cube

-- 01: "alpha function, fog mode, fog table mode; seven 16-bit masks ..; sample mask; flags"
unfoldable pub variant_bytes : Variant → List ℕ
variant_bytes v = v.alpha_func ∷ v.fog_mode ∷ v.fog_table_mode ∷ (masks_bytes v ++ (v.sample_mask ∷ v.flags ∷ []))

unfoldable pub variant_from_body : List ℕ → Variant
variant_from_body b =
    record {
      alpha_func = get_or b 0 0;
      fog_mode = get_or b 1 0;
      fog_table_mode = get_or b 2 0;
      depth_sampler = mask_at b 3;
      depth_fetch = mask_at b 5;
      fetch4 = mask_at b 7;
      fetch4_alpha = mask_at b 9;
      raw_depth_red = mask_at b 11;
      volume = mask_at b 13;
      cube = mask_at b 15;
      sample_mask = get_or b 17 0;
      flags = get_or b 18 0;
    }

-- 01: "length 1 to 32, the name, zeros"
abbrev pub entry_bytes : Entry → List ℕ
entry_bytes e = e.len ∷ e.name

unfoldable pub entry_from_body : List ℕ → Entry
entry_from_body b = record { len = get_or b 0 0; name = take 32 (drop 1 b) }

-- 02, One: "value in four bytes, low byte first"
abbrev pub word_bytes : ℕ → List ℕ
word_bytes v = v % 256 ∷ v / 256 % 256 ∷ v / 256 / 256 % 256 ∷ v / 256 / 256 / 256 ∷ []

-- the word whose low byte is byte i
abbrev pub word_at : List ℕ → ℕ → ℕ
word_at b i = get_or b i 0 + 256 * (get_or b (i + 1) 0 + 256 * (get_or b (i + 2) 0 + 256 * get_or b (i + 3) 0))

-- 02, One: "stage, type, value"
abbrev pub state_bytes : StateWrite → List ℕ
state_bytes w = w.stage ∷ w.state ∷ word_bytes w.value

unfoldable pub state_from_body : List ℕ → StateWrite
state_from_body b = record { stage = get_or b 0 0; state = get_or b 1 0; value = word_at b 2 }

unfoldable pub body_bytes : Record → List ℕ
body_bytes (rec.Key k) = key_bytes false k
body_bytes (rec.Variant v) = variant_bytes v
body_bytes (rec.Entry e) = entry_bytes e
body_bytes rec.Emit = []
body_bytes (rec.State w) = state_bytes w
body_bytes (rec.WideKey k) = key_bytes true k

-- the record that a body of each kind stands for
abbrev pub record_from_body : Kind → List ℕ → Record
record_from_body kind.Key b = rec.Key (key_from_body false b)
record_from_body kind.Variant b = rec.Variant (variant_from_body b)
record_from_body kind.Entry b = rec.Entry (entry_from_body b)
record_from_body kind.Emit b = rec.Emit
record_from_body kind.State b = rec.State (state_from_body b)
record_from_body kind.WideKey b = rec.WideKey (key_from_body true b)

-- 01: "A kind byte, then a body"
abbrev pub record_bytes : Record → List ℕ
record_bytes r = kind_byte (kind_of r) ∷ body_bytes r

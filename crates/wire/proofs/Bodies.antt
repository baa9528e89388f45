-- Bodies: how long they are, that the body of a value stands for that value, and that a body is the one of the value that it stands for.
use mathlib.Core.Path.{◌≡◌, refl, sym, ap, ◌∙◌}
use mathlib.Core.Bool.{Bool, true, false, cond}
use mathlib.Core.List.{List, [], ◌∷◌, ◌++◌, append_assoc, map}
use Prim.Native.Nat.{ℕ, zero, suc, ◌+◌, ◌*◌, ◌/◌, ◌%◌, ◌≤◌, ◌<◌}
use native.Mathlib.Nat.{add-zero}
use native.Mathlib.Numerals.{add-one}
use native.Mathlib.Omega.{arith}
use lib.Dec.{eqb, ltb}
use lib.ListN.{length, take, drop, get_or, length-append, length-drop}
use lib.Seq.{drop-cons, get_or-append-add, length-take-le, take-add, take_at}
use Rattle.values.specs.Flags.{stage_flags_bad, variant_flags_bad}
use Rattle.values.specs.Entries.{entry_good}
use Rattle.values.specs.Words.{entry_reserved}
use Rattle.values.specs.declared.Stage.{Stage}
use Rattle.values.specs.declared.Key.{Key}
use Rattle.values.specs.declared.Variant.{Variant}
use Rattle.values.specs.declared.Entry.{Entry}
use Rattle.values.specs.declared.StateWrite.{StateWrite}
use Rattle.values.specs.Kinds.{seven_bytes}
use Rattle.states.specs.States.{wide_stages}
use Rattle.states.specs.Writes.{accepted}
use Rattle.wire.specs.Bodies.{kind_of, body_length, key_kind, record_length, stage_size, body_bytes, record_bytes, record_from_body}
use Rattle.wire.specs.Bodies.{stage_bytes, stages_bytes, key_bytes, variant_bytes, entry_bytes, state_bytes}
use Rattle.wire.specs.Bodies.{specular_at, specular_byte, stage_from_bytes, stages_from_bytes, key_from_body, variant_from_body, entry_from_body}
use Rattle.wire.specs.Bodies.{state_from_body}
use Rattle.wire.specs.Reading.{specular_in}
use Rattle.wire.specs.Values.{key_as, key_record, own}
use Rattle.wire.specs.declared.Kind.{Kind}
use Rattle.wire.specs.declared.Kind.TheVariants as kind
use Rattle.wire.specs.declared.Record.{Record}
use Rattle.wire.specs.declared.Record.TheVariants as rec
use Rattle.wire.proofs.Laws.{one_more}

-- what the types say of a record: a key has eight stages, and an entry 32 bytes
abbrev pub Shaped : Record → Type 0
Shaped (rec.Key k) = length k.stages ≡ 8
Shaped (rec.Variant v) = Unit {0}
Shaped (rec.Entry e) = length e.name ≡ 32
Shaped rec.Emit = Unit {0}
Shaped (rec.State w) = Unit {0}
Shaped (rec.WideKey k) = length k.stages ≡ 8

-- what the types say of lent bytes
abbrev pub Bytes : List ℕ → Type 0
Bytes b = (i : ℕ) → get_or b i 0 < 256

-- a record's value is free of the causes 3, 5, 6, 13 and 10 to 12
abbrev pub Free : Record → Type 0
Free (rec.Key k) = stage_flags_bad k.stages ≡ false
Free (rec.Variant v) = variant_flags_bad v ≡ false
Free (rec.Entry e) = (entry_good e ≡ true) × (entry_reserved e ≡ false)
Free rec.Emit = Unit {0}
Free (rec.State w) = accepted w ≡ true
Free (rec.WideKey k) = stage_flags_bad k.stages ≡ false

-- a key's record, of either kind
pub of_either : (P : Bool → Record → Type 0) (k : Key) → P false (rec.Key k) → P true (rec.WideKey k) → P k.wide (key_record k)
of_either P k p q = go k.wide
  where
    go : (wide : Bool) → P wide (cond wide (rec.WideKey k) (rec.Key k))
    go true = q
    go false = p

pub key_free : (k : Key) → stage_flags_bad k.stages ≡ false → Free (key_record k)
key_free k f = of_either (λ _. Free) k f f

pub key_shaped : (k : Key) → length k.stages ≡ 8 → Shaped (key_record k)
key_shaped k h = of_either (λ _. Shaped) k h h

pub key_kind_of : (k : Key) → kind_of (key_record k) ≡ key_kind k.wide
key_kind_of k = of_either (λ (wide : Bool) (r : Record). kind_of r ≡ key_kind wide) k refl refl

pub key_body : (k : Key) → body_bytes (key_record k) ≡ key_bytes k.wide k
unfolding body_bytes
key_body k = of_either (λ (wide : Bool) (r : Record). body_bytes r ≡ key_bytes wide k) k refl refl

-- Lengths.

-- the stages and the two bytes behind them
pub key-length : (wide : Bool) → body_length (key_kind wide) ≡ specular_at wide + 2
key-length true = refl
key-length false = refl

eight_stages : (wide : Bool) → stage_size wide * 8 ≡ specular_at wide
eight_stages true = refl
eight_stages false = refl

pub stage-length : (wide : Bool) (s : Stage) → length (stage_bytes wide s) ≡ stage_size wide
stage-length true s = refl
stage-length false s = refl

stages-length : (wide : Bool) (l : List Stage) → length (stages_bytes wide l) ≡ stage_size wide * length l
unfolding stages_bytes
stages-length true [] = refl
stages-length false [] = refl
stages-length true (s ∷ l) = simp length-append (omega (arith, stages-length true l))
stages-length false (s ∷ l) = simp length-append (omega (arith, stages-length false l))

stages_end : (wide : Bool) (l : List Stage) → length l ≡ 8 → length (stages_bytes wide l) ≡ specular_at wide
stages_end wide l h = stages-length wide l ∙ ap (λ (n : ℕ). stage_size wide * n) h ∙ eight_stages wide

pub body-length : (r : Record) → Shaped r → length (body_bytes r) ≡ body_length (kind_of r)
unfolding body_bytes key_bytes variant_bytes
body-length (rec.Key k) h = simp length-append (omega (arith, stages_end false k.stages h))
body-length (rec.Variant v) h = refl
body-length (rec.Entry e) h = omega (arith, h)
body-length rec.Emit h = refl
body-length (rec.State w) h = refl
body-length (rec.WideKey k) h = simp length-append (omega (arith, stages_end true k.stages h))

pub record-length : (r : Record) → Shaped r → length (record_bytes r) ≡ record_length (kind_of r)
record-length r h = omega (arith, body-length r h)

pub stages_count : (wide : Bool) (n : ℕ) (b : List ℕ) → length (stages_from_bytes wide n b) ≡ n
unfolding stages_from_bytes
stages_count wide zero b = refl
stages_count wide (suc n) b = ap suc (stages_count wide n (drop (stage_size wide) b))

pub name-length : (b : List ℕ) → 33 ≤ length b → length (entry_from_body b).name ≡ 32
unfolding entry_from_body
name-length b h = length-take-le 32 (drop 1 b) (simp length-drop (omega arith))

-- The body of a value, whatever stands behind it, stands for that value.

stages_back : (wide : Bool) (l : List Stage) (x : List ℕ) → stages_from_bytes wide (length l) (stages_bytes wide l ++ x) ≡ cond wide l (map seven_bytes l)
unfolding stages_from_bytes stages_bytes
stages_back true [] x = refl
stages_back false [] x = refl
stages_back true (s ∷ l) x = ap (λ (r : List Stage). s ∷ r) (stages_back true l x)
stages_back false (s ∷ l) x = ap (λ (r : List Stage). seven_bytes s ∷ r) (stages_back false l x)

flag_back : (b : Bool) → eqb (cond b 1 0) 1 ≡ b
flag_back true = refl
flag_back false = refl

flag_small : (b : Bool) → ltb 1 (cond b 1 0) ≡ false
flag_small true = refl
flag_small false = refl

mask_back : (m : ℕ) → m % 256 + 256 * (m / 256) ≡ m
mask_back m = omega arith

module _ (wide : Bool) (k : Key) (x : List ℕ) (h : length k.stages ≡ 8) where
  -- the two bytes behind the stages
  behind_stages : (i : ℕ) → get_or (key_bytes wide k ++ x) (specular_at wide + i) 0 ≡ get_or ((cond k.specular_add 1 0 ∷ k.projected ∷ []) ++ x) i 0
  unfolding key_bytes
  behind_stages i = rw (append_assoc, ← stages_end wide k.stages h) (get_or-append-add (stages_bytes wide k.stages) _ i 0)

  key_stages : stages_from_bytes wide 8 (key_bytes wide k ++ x) ≡ (key_as wide k).stages
  unfolding key_bytes
  key_stages = rw (append_assoc, sym h) (stages_back wide k.stages _)

  specular_there : specular_byte wide (key_bytes wide k ++ x) ≡ cond k.specular_add 1 0
  specular_there = ap (λ (i : ℕ). get_or (key_bytes wide k ++ x) i 0) (sym (add-zero (specular_at wide))) ∙ behind_stages 0

  pub key_back : key_from_body wide (key_bytes wide k ++ x) ≡ key_as wide k
  unfolding key_from_body
  key_back = rw (key_stages, specular_there, behind_stages 1, flag_back)

  pub specular_back : ltb 1 (specular_byte wide (key_bytes wide k ++ x)) ≡ false
  specular_back = rw (specular_there, flag_small)

pub variant_back : (v : Variant) (x : List ℕ) → variant_from_body (variant_bytes v ++ x) ≡ v
unfolding variant_from_body variant_bytes
variant_back v x = simp mask_back

pub entry_back : (e : Entry) (x : List ℕ) → length e.name ≡ 32 → entry_from_body (entry_bytes e ++ x) ≡ e
unfolding entry_from_body
entry_back e x h = rw (take_at e.name x 32 h)

pub state_back : (w : StateWrite) (x : List ℕ) → state_from_body (state_bytes w ++ x) ≡ w
unfolding state_from_body
state_back w x = simp mask_back

-- the body of a record, whatever stands behind it, stands for what is read of it
pub record_back : (r : Record) (x : List ℕ) → Shaped r → record_from_body (kind_of r) (body_bytes r ++ x) ≡ own r
unfolding body_bytes
record_back (rec.Key k) x h = ap rec.Key (key_back false k x h)
record_back (rec.Variant v) x h = ap rec.Variant (variant_back v x)
record_back (rec.Entry e) x h = ap rec.Entry (entry_back e x h)
record_back rec.Emit x h = refl
record_back (rec.State w) x h = ap rec.State (state_back w x)
record_back (rec.WideKey k) x h = ap rec.WideKey (key_back true k x h)

-- The value that a body stands for has that body.

-- n elements from place i on, one by one
abbrev gets : ℕ → ℕ → List ℕ → List ℕ
gets i zero t = []
gets i (suc n) t = get_or t i 0 ∷ gets (suc i) n t

gets-take : (i n : ℕ) (t : List ℕ) → i + n ≤ length t → gets i n t ≡ take n (drop i t)
gets-take i zero t h = refl
gets-take i (suc n) t h = rw (drop-cons t i 0 (omega arith), gets-take (suc i) n t (omega arith))

-- the bytes of one stage
stage_again : (wide : Bool) (t : List ℕ) → stage_size wide ≤ length t → stage_bytes wide (stage_from_bytes wide t) ≡ take (stage_size wide) t
stage_again true t h = gets-take 0 9 t h
stage_again false t h = gets-take 0 7 t h

-- room for one more stage
module _ (wide : Bool) (n : ℕ) (t : List ℕ) (h : stage_size wide * suc n ≤ length t) where
  first_fits : stage_size wide ≤ length t
  first_fits = omega (arith, one_more wide n)

  rest_fits : stage_size wide * n ≤ length (drop (stage_size wide) t)
  rest_fits = simp length-drop (omega (arith, one_more wide n))

stages_again : (wide : Bool) (n : ℕ) (t : List ℕ) → stage_size wide * n ≤ length t
    → stages_bytes wide (stages_from_bytes wide n t) ≡ take (stage_size wide * n) t
unfolding stages_from_bytes stages_bytes
stages_again true zero t h = refl
stages_again false zero t h = refl
stages_again wide (suc n) t h =
    let m = stage_size wide in
    ap (λ (r : List ℕ). stage_bytes wide (stage_from_bytes wide t) ++ r) (stages_again wide n (drop m t) (rest_fits wide n t h))
    ∙ ap (λ (l : List ℕ). l ++ take (m * n) (drop m t)) (stage_again wide t (first_fits wide n t h))
    ∙ sym (take-add m (m * n) t)
    ∙ ap (λ (i : ℕ). take i t) (one_more wide n)

two_again : (i : ℕ) (t : List ℕ) → i + 2 ≤ length t → ◌≡◌ {A = List ℕ} (get_or t i 0 ∷ get_or t (i + 1) 0 ∷ []) (take 2 (drop i t))
two_again i t h = rw add-one (gets-take i 2 t h)

flag_again : (x : ℕ) → x ≤ 1 → cond (eqb x 1) 1 0 ≡ x
flag_again zero h = refl
flag_again (suc zero) h = refl
flag_again (suc (suc x)) h = absurd (omega arith)

pub key_again : (wide : Bool) (t : List ℕ) → body_length (key_kind wide) ≤ length t → specular_byte wide t ≤ 1 →
    key_bytes wide (key_from_body wide t) ≡ take (body_length (key_kind wide)) t
unfolding key_from_body key_bytes
key_again wide t h k =
    let at = specular_at wide in
    let whole : at + 2 ≤ length t = omega (arith, key-length wide) in
    let stages : stages_bytes wide (stages_from_bytes wide 8 t) ≡ take at t =
    stages_again wide 8 t (omega (arith, eight_stages wide)) ∙ ap (λ (i : ℕ). take i t) (eight_stages wide) in
    rw (stages, flag_again (specular_byte wide t) k, key-length wide)
    (ap (λ (l : List ℕ). take at t ++ l) (two_again at t whole) ∙ sym (take-add at 2 t))

-- A key that was read is as its own kind has it: in kind 1 the arguments 0 are their default.
stages_seven : (n : ℕ) (b : List ℕ) → map seven_bytes (stages_from_bytes false n b) ≡ stages_from_bytes false n b
unfolding stages_from_bytes
stages_seven zero b = refl
stages_seven (suc n) b = ap (λ (l : List Stage). stage_from_bytes false b ∷ l) (stages_seven n (drop 7 b))

pub key_settled : (wide : Bool) (b : List ℕ) → wide_stages (key_from_body wide b) ≡ (key_from_body wide b).stages
unfolding key_from_body wide_stages
key_settled true b = refl
key_settled false b = stages_seven 8 b

-- byte i, the low one, and what stands above it
module _ (t : List ℕ) (h : Bytes t) where
  low_again : (i r : ℕ) → (get_or t i 0 + 256 * r) % 256 ≡ get_or t i 0
  low_again i r = omega (arith, h i)

  high_again : (i r : ℕ) → (get_or t i 0 + 256 * r) / 256 ≡ r
  high_again i r = omega (arith, h i)

pub variant_again : (t : List ℕ) → Bytes t → 19 ≤ length t → variant_bytes (variant_from_body t) ≡ take 19 t
unfolding variant_from_body variant_bytes
variant_again t b h = simp (low_again t b, high_again t b) (gets-take 0 19 t h)

pub entry_again : (t : List ℕ) → 33 ≤ length t → entry_bytes (entry_from_body t) ≡ take 33 t
unfolding entry_from_body
entry_again [] h = absurd (omega arith)
entry_again (x ∷ t) h = refl

pub state_again : (t : List ℕ) → Bytes t → 6 ≤ length t → state_bytes (state_from_body t) ≡ take 6 t
unfolding state_from_body
state_again t b h = simp (high_again t b, low_again t b) (gets-take 0 6 t h)

-- The record that a body stands for is of the body's kind, is what is read of it, and has that body.
pub kind_again : (k : Kind) (b : List ℕ) → kind_of (record_from_body k b) ≡ k
kind_again kind.Key b = refl
kind_again kind.Variant b = refl
kind_again kind.Entry b = refl
kind_again kind.Emit b = refl
kind_again kind.State b = refl
kind_again kind.WideKey b = refl

pub own_again : (k : Kind) (b : List ℕ) → own (record_from_body k b) ≡ record_from_body k b
unfolding key_from_body
own_again kind.Key b = rw stages_seven
own_again kind.Variant b = refl
own_again kind.Entry b = refl
own_again kind.Emit b = refl
own_again kind.State b = refl
own_again kind.WideKey b = refl

pub shaped_again : (k : Kind) (b : List ℕ) → body_length k ≤ length b → Shaped (record_from_body k b)
unfolding key_from_body
shaped_again kind.Key b h = stages_count false 8 b
shaped_again kind.Variant b h = tt
shaped_again kind.Entry b h = name-length b h
shaped_again kind.Emit b h = tt
shaped_again kind.State b h = tt
shaped_again kind.WideKey b h = stages_count true 8 b

pub bytes_again : (k : Kind) (b : List ℕ) → Bytes b → body_length k ≤ length b → specular_in k b ≤ 1 →
    body_bytes (record_from_body k b) ≡ take (body_length k) b
unfolding body_bytes
bytes_again kind.Key b w h s = key_again false b h s
bytes_again kind.Variant b w h s = variant_again b w h
bytes_again kind.Entry b w h s = entry_again b h
bytes_again kind.Emit b w h s = refl
bytes_again kind.State b w h s = state_again b w h
bytes_again kind.WideKey b w h s = key_again true b h s

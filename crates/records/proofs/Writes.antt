-- Request One's law for what is held: behind a list of write records the held key holds, for each stage and type, the last value written, or else what
-- it held before, or the default where none was held. Each record does to the key what its write does, and the law of `states` does the rest.
use Prim.Native.Nat.{ℕ}
use mathlib.Core.Path.{◌≡◌, refl, sym, ap, ◌∙◌}
use mathlib.Core.Bool.{Bool, true, false, ◌||◌, cond}
use mathlib.Core.List.{List, [], ◌∷◌}
use mathlib.Core.Option.{get_or}
use Rattle.std.specs.Prelude.{Some, is_some, IsSomeAnd, Result}
use Rattle.values.specs.declared.Key.{Key}
use Rattle.values.specs.declared.StateWrite.{StateWrite}
use Rattle.values.specs.declared.Refusal.{Refusal}
use Rattle.states.specs.States.{defaults, get_state}
use Rattle.states.specs.Writes.{accepted, any_widens, checked_write, last_written, write_applied, writes_applied}
use Rattle.states.proofs.Accepted.{check_cases}
use Rattle.states.proofs.LastWritten.{kind_written, last_written_lem, from_defaults}
use Rattle.states.proofs.Stages.{neither}
use Rattle.values.specs.Steps.{◌>>=◌}
use Rattle.wire.specs.Bodies.{body_bytes, record_bytes}
use Rattle.wire.specs.Reading.{took, read_body, read_as, read_record}
use Rattle.wire.specs.declared.Record.TheVariants as rec
use Rattle.wire.specs.declared.Reading.{Reading}
use Rattle.wire.proofs.Bodies.{state_back}
use Rattle.records.specs.Applying.{nothing_held, key_or_defaults, holding_key, holding, held_by, held_after}
use Rattle.records.specs.declared.Held.{Held}
use Rattle.records.proofs.Room.{EightStages, start_eight}

-- what is held behind the records of a list of writes, each handed over by itself, the first of the list first
unfoldable pub held_behind : List StateWrite → Held → Held
held_behind [] h = h
held_behind (w ∷ r) h = held_behind r (held_after h (record_bytes (rec.State w)))

-- the record of a write is read as that write, or refused with its cause
pub read_write : (w : StateWrite) → read_record (record_bytes (rec.State w)) ≡ (checked_write w >>= λ _. took (rec.State w))
unfolding read_record read_as read_body body_bytes
read_write w = rw (state_back w [])

-- one write: it is done, or all is left
pub one_held : (w : StateWrite) (h : Held) → held_after h (record_bytes (rec.State w)) ≡ cond (accepted w) (holding (rec.State w) h) h
one_held w h =
    ap (λ (x : Result Reading Refusal). held_by x h) (read_write w)
    ∙ check_cases
    (λ (a : Bool) (n : ℕ) (c : Result (Unit {0}) Refusal). held_by (c >>= λ _. took (rec.State w)) h ≡ cond a (holding (rec.State w) h) h)
    w (λ c. refl) (λ _. refl)

-- A key is held if one was, or once a write is accepted: the key that the list makes of the one that a write alters.
abbrev pub any_accepted : List StateWrite → Bool
any_accepted [] = false
any_accepted (w ∷ r) = accepted w || any_accepted r

pub none_done : (ws : List StateWrite) (k : Key) → any_accepted ws ≡ false → writes_applied ws k ≡ k
unfolding writes_applied write_applied
none_done [] k e = refl
none_done (w ∷ r) k e = let n = neither (accepted w) (any_accepted r) e in rw n.0 (none_done r k n.1)

pub left_behind : (ws : List StateWrite) (h : Held) → held_behind ws h ≡ cond (any_accepted ws) (holding_key (writes_applied ws (key_or_defaults h)) h) h
unfolding held_behind writes_applied write_applied
left_behind [] h = refl
left_behind (w ∷ r) h = ap (held_behind r) (one_held w h) ∙ go (left_behind r) (accepted w) (any_accepted r) refl refl
  where
    go : ((g : Held) → held_behind r g ≡ cond (any_accepted r) (holding_key (writes_applied r (key_or_defaults g)) g) g) →
        (a b : Bool) → accepted w ≡ a → any_accepted r ≡ b →
        held_behind r (cond a (holding (rec.State w) h) h) ≡ cond (a || b) (holding_key (writes_applied r (write_applied w (key_or_defaults h))) h) h
    go rest true true e f = rest (holding (rec.State w) h) ∙ rw f
    go rest true false e f = rest (holding (rec.State w) h) ∙ rw (f, none_done r (write_applied w (key_or_defaults h)) f)
    go rest false b e f = rw (e, ← f) (rest h)

-- the key that a further write would alter is the one that the list of writes leaves
pub key_behind : (ws : List StateWrite) (h : Held) → key_or_defaults (held_behind ws h) ≡ writes_applied ws (key_or_defaults h)
key_behind ws h = ap key_or_defaults (left_behind ws h) ∙ go (any_accepted ws) refl
  where
    go : (a : Bool) → any_accepted ws ≡ a →
        key_or_defaults (cond a (holding_key (writes_applied ws (key_or_defaults h)) h) h) ≡ writes_applied ws (key_or_defaults h)
    go true e = refl
    go false e = sym (none_done ws (key_or_defaults h) e)

-- The law, said of that key.
pub last_held : (ws : List StateWrite) (h : Held) → EightStages h → (i t : ℕ) →
    get_state i t (key_or_defaults (held_behind ws h)) ≡ get_or (last_written i t ws) (get_state i t (key_or_defaults h))
last_held ws h eight i t = ap (get_state i t) (key_behind ws h) ∙ last_written_lem ws (key_or_defaults h) (start_eight h eight) i t

-- 02, Nine: types 26 and 27 "make the key a kind 6 key"; "other writes leave a key's kind"
pub kind_held : (ws : List StateWrite) (h : Held) → (key_or_defaults (held_behind ws h)).wide ≡ ((key_or_defaults h).wide || any_widens ws)
kind_held ws h = ap (λ (k : Key). k.wide) (key_behind ws h) ∙ kind_written ws (key_or_defaults h)

pub held_behind_lem : (ws : List StateWrite) (h : Held) → is_some (held_behind ws h).key ≡ (any_accepted ws || is_some h.key)
held_behind_lem ws h = ap (λ (x : Held). is_some x.key) (left_behind ws h) ∙ go (any_accepted ws)
  where
    go : (a : Bool) → is_some (cond a (holding_key (writes_applied ws (key_or_defaults h)) h) h).key ≡ (a || is_some h.key)
    go true = refl
    go false = refl

-- So it holds of the held key itself: of one that was held before, and of one that begins from the defaults with the first accepted write.
pub held_of_key : (ws : List StateWrite) (h : Held) (k : Key) → h.key ≡ Some k → (held_behind ws h).key ≡ Some (writes_applied ws k)
held_of_key ws h k e = ap (λ (x : Held). x.key) (left_behind ws h) ∙ go (any_accepted ws) refl
  where
    go : (a : Bool) → any_accepted ws ≡ a → (cond a (holding_key (writes_applied ws (key_or_defaults h)) h) h).key ≡ Some (writes_applied ws k)
    go true f = rw e
    go false f = rw (e, none_done ws k f)

pub held_of_none : (ws : List StateWrite) → any_accepted ws ≡ true → (held_behind ws nothing_held).key ≡ Some (writes_applied ws defaults)
held_of_none ws e = ap (λ (x : Held). x.key) (left_behind ws nothing_held) ∙ rw e

pub last_of_key : (ws : List StateWrite) (h : Held) (k : Key) → EightStages h → h.key ≡ Some k →
    IsSomeAnd (held_behind ws h).key (λ held. (i t : ℕ) → get_state i t held ≡ get_or (last_written i t ws) (get_state i t k))
last_of_key ws h k eight e = rw (held_of_key ws h k e) (last_written_lem ws k (rw e at eight))

pub last_of_none : (ws : List StateWrite) → any_accepted ws ≡ true →
    IsSomeAnd (held_behind ws nothing_held).key (λ held. (i t : ℕ) → get_state i t held ≡ get_or (last_written i t ws) (get_state i t defaults))
last_of_none ws e = rw (held_of_none ws e) (from_defaults ws)

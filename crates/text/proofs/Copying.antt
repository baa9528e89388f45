-- The loop of `copy`: a turn moves one byte from what is left to copy into the buffer.
use Prim.Native.Nat.{ℕ, ◌+◌, ◌<◌}
use mathlib.Core.Path.{◌≡◌, sym}
use mathlib.Core.List.{List}
use native.Mathlib.Nat.{add-suc}
use native.Mathlib.Numerals.{add-one}
use lib.ListN.{length, drop, set, get_or, drop_of_length-le}
use lib.Seq.{sets, length-sets, drop-cons}
use Rattle.std.proofs.lemmas.List.{length-map, get_or-map}
use Rattle.text.specs.Marks.{filled_byte, filled}

turn : (t l : List ℕ) (a i : ℕ) → i < length t → sets (set l (a + i) (get_or t i 0)) (a + (i + 1)) (drop (i + 1) t) ≡ sets l (a + i) (drop i t)
turn t l a i h = rw (add-one i, drop-cons t i 0 h, add-suc a i)

pub turned : (s l : List ℕ) (d a i : ℕ) → i < length s
    → sets (set l (a + i) (filled_byte d (get_or s i 0))) (a + (i + 1)) (drop (i + 1) (filled d s)) ≡ sets l (a + i) (drop i (filled d s))
turned s l d a i h = rw (sym (get_or-map (filled_byte d) s i 0 0 h)) (turn (filled d s) l a i (rw (length-map s (filled_byte d)) h))

-- what `grind` is handed at the loop and behind it
pub ruleset copying = (turned, length-map, length-sets, drop_of_length-le)

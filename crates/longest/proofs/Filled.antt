-- A text as long as its buffer fills it.
use Prim.Native.Nat.{ℕ}
use mathlib.Core.Path.{◌≡◌, ◌∙◌}
use mathlib.Core.List.{List, append-nil}
use native.Mathlib.Omega.{arith}
use lib.ListN.{length, drop_of_length-le}
use Rattle.text.specs.Text.{Text, flat}
use Rattle.text.specs.Buffer.{Wrote}
use Rattle.text.proofs.Laws.{whole}

pub fills : {l l' : List ℕ} {a : ℕ} {t : Text} → Wrote l 0 l' a t → length (flat t) ≡ length l → l' ≡ flat t
fills {l} {t = t} w h = whole w (omega arith) ∙ rw (drop_of_length-le l {i = length (flat t)} (omega arith), append-nil (flat t))

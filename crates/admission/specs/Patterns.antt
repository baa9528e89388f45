-- Words as patterns, `#` standing for a digit from 0 to 7. Only contracts of private functions cite it: that the patterns are the reserved words is
-- proved (`proofs/Reserved`).
use Rattle.std.specs.Prelude.{ℕ, zero, suc, Bool, true, false, cond, ◌&&◌, List, [], ◌∷◌, take, drop, ◌==◌, nat_le}
use Prim.Native.Char.{code}

-- a byte is the pattern's, or a digit from 0 to 7 at `#`
abbrev pub fits_byte : ℕ → ℕ → Bool
fits_byte p c = cond (p == (code "#")) (nat_le (code "0") c && nat_le c (code "7")) (p == c)

-- a name fits a pattern of its length
abbrev pub fits : List ℕ → List ℕ → Bool
fits [] [] = true
fits [] (c ∷ w) = false
fits (p ∷ s) [] = false
fits (p ∷ s) (c ∷ w) = fits_byte p c && fits s w

-- the first k patterns of n bytes that stand behind one another
abbrev pub chunks : ℕ → ℕ → List ℕ → List (List ℕ)
chunks n zero l = []
chunks n (suc k) l = take n l ∷ chunks n k (drop n l)

-- Literals in which a mark `#` stands for a digit: `numbered 3 (bytes "s#.sample(samp#, ")` is the text `s3.sample(samp3, `.
-- Only contracts of functions that write one literal cite this file. The definition of the text has templates in its place, and does not rest on it.
use Rattle.std.specs.Prelude.{ℕ, ◌+◌, cond, List, map, eqb}
use Prim.Native.Char.{code}
use Rattle.text.specs.Text.{Text, raw}

-- a byte, or d where it is a mark
abbrev pub filled_byte : ℕ → ℕ → ℕ
filled_byte d b = cond (eqb b (code "#")) d b

-- bytes with d for each mark
abbrev pub filled : ℕ → List ℕ → List ℕ
filled d s = map (filled_byte d) s

-- bytes with the digit n for each mark
abbrev pub numbered : ℕ → List ℕ → Text
numbered n s = raw (filled (48 + n) s)

-- Listed names in a text: a text as words and marks, which words are listed names, which of them are declarations, and the part of a text that counts.
use Rattle.std.specs.Prelude.{ℕ, ◌+◌, ◌-◌, ◌*◌, Bool, true, false, not, ◌&&◌, ◌||◌, cond, List, [], ◌∷◌, ◌++◌, reverse, eqb, get_or}
use Prim.Native.Char.{code}
use Prim.Native.String.{String}
use Rattle.std.proofs.Math.Option.{Option, none, some}
use Rattle.text.specs.Text.{bytes}
use Rattle.text.specs.Format.{same}
use Rattle.values.specs.Entries.{is_digit, continues_name}
use Rattle.values.specs.Listed.{Name, name, listed}

-- 01: "a longest run of ASCII letters, digits and underscores"; any other byte is a mark
pub data Token : Type 0 where
  word : List ℕ → Token
  mark : ℕ → Token

-- a byte of a word joins the word behind it
abbrev pub joined : ℕ → List Token → List Token
joined c [] = word (c ∷ []) ∷ []
joined c (mark d ∷ r) = word (c ∷ []) ∷ mark d ∷ r
joined c (word w ∷ r) = word (c ∷ w) ∷ r

abbrev pub tokens : List ℕ → List Token
tokens [] = []
tokens (c ∷ r) = cond (continues_name c) (joined c (tokens r)) (mark c ∷ tokens r)

abbrev pub same_token : Token → Token → Bool
same_token (word v) (word w) = same v w
same_token (word v) (mark c) = false
same_token (mark c) (word w) = false
same_token (mark c) (mark d) = eqb c d

abbrev pub starts : List Token → List Token → Bool
starts [] b = true
starts (t ∷ p) [] = false
starts (t ∷ p) (u ∷ b) = same_token t u && starts p b

-- The tokens before a word are held last first: they end in the tokens of s, its words whole.
abbrev pub follows : List ℕ → List Token → Bool
follows s before = starts (reverse (tokens s)) before

abbrev pub starts_digit : List ℕ → Bool
starts_digit [] = false
starts_digit (c ∷ w) = is_digit c

-- 01: "that starts with no digit and does not follow a full stop"
abbrev pub is_name : List Token → List ℕ → Bool
is_name before w = not (starts_digit w) && not (follows (bytes ".") before)

-- 01: "a type is Varyings, sampler, float, float2, float3, float4, or texture2d, texture3d, texturecube or depth2d with `<float>`"
abbrev pub types : List String
types =
    "Varyings" ∷ "sampler" ∷ "float" ∷ "float2" ∷ "float3" ∷ "float4" ∷ "texture2d<float>" ∷ "texture3d<float>" ∷ "texturecube<float>"
    ∷ "depth2d<float>" ∷ []

abbrev pub follows_type : List String → List Token → Bool
follows_type [] before = false
follows_type (s ∷ r) before = follows (bytes s ++ bytes " ") before || follows_type r before

-- 01: "A declaration is a listed name after a type and one space, or after `float4 *` or `float &`"
abbrev pub declares : List Token → Bool
declares before = follows_type types before || (follows (bytes "float4 *") before || follows (bytes "float &") before)

abbrev pub same_name : Name → Name → Bool
same_name (name k i) (name m j) = eqb k m && eqb i j

-- What is found of the listed names.
pub data Occurrence : Type 0 where
  declaration : Name → Occurrence
  usage : Name → Occurrence
  row : ℕ → Occurrence

-- the decimal number that a word is, behind the digits of n
abbrev pub number_from : ℕ → List ℕ → Option ℕ
number_from n [] = some n
number_from n (c ∷ w) = cond (is_digit c) (number_from (10 * n + (c - 48)) w) none

abbrev pub number_in : Token → Option ℕ
number_in (mark c) = none
number_in (word w) = number_from 0 w

abbrev pub row_of : Option ℕ → List Occurrence
row_of none = []
row_of (some k) = row k ∷ []

-- 01: "the decimal number in square brackets directly behind a use of `ps_c`"
abbrev pub row_behind : List Token → List Occurrence
row_behind behind =
    cond (same_token (mark (code "[")) (get_or behind 0 (mark 0)) && same_token (mark (code "]")) (get_or behind 2 (mark 0)))
    (row_of (number_in (get_or behind 1 (mark 0)))) []

-- 01: "Every other occurrence is a use."
abbrev pub occurrence_of : List Token → List ℕ → List Token → Option Name → List Occurrence
occurrence_of before w behind none = []
occurrence_of before w behind (some n) =
    cond (declares before) (declaration n ∷ []) (usage n ∷ cond (same (bytes "ps_c") w) (row_behind behind) [])

-- what the word w is, between the tokens before and behind it
abbrev pub found_at : List Token → List ℕ → List Token → List Occurrence
found_at before w behind = cond (is_name before w) (occurrence_of before w behind (listed w)) []

-- the occurrences in the tokens of a text, from a place in it on
abbrev pub occurs_in : List Token → List Token → List Occurrence
occurs_in before [] = []
occurs_in before (mark c ∷ behind) = occurs_in (mark c ∷ before) behind
occurs_in before (word w ∷ behind) = found_at before w behind ++ occurs_in (word w ∷ before) behind

-- the text t begins with s
abbrev pub begins : List ℕ → List ℕ → Bool
begins [] t = true
begins (x ∷ s) [] = false
begins (x ∷ s) (c ∷ t) = eqb x c && begins s t

abbrev pub from_opening : List ℕ → List ℕ
from_opening [] = []
from_opening (c ∷ r) = cond (eqb c (code "(")) (c ∷ r) (from_opening r)

-- the first argument says that a line begins here
abbrev pub from_fragment : Bool → List ℕ → List ℕ
from_fragment at_start [] = []
from_fragment at_start (c ∷ r) =
    cond (at_start && begins (bytes "fragment") (c ∷ r)) (from_opening (c ∷ r)) (from_fragment (eqb c (code "\n")) r)

-- 01: "Only text from the `(` behind the entry, on the line that begins with `fragment`, to the end counts."
abbrev pub counted : List ℕ → List ℕ
counted text = from_fragment true text

-- what occurs in the part of a text that counts, in the text's order
abbrev pub occurrences : List ℕ → List Occurrence
occurrences text = occurs_in [] (tokens (counted text))

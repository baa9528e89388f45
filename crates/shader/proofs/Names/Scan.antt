-- A scan that finds what 01's rule finds, and forgets what can no longer matter: so it computes from the middle of a text on.
use Prim.Native.Nat.{ℕ}
use mathlib.Core.Path.{◌≡◌, refl, ap, sym, ◌∙◌}
use mathlib.Core.List.{List, [], ◌∷◌, ◌++◌, append_assoc}
use mathlib.Core.Bool.{Bool, true, false, not, ◌&&◌, ◌||◌, cond}
use mathlib.Core.Option.{Option, none, some}
use lib.Dec.{T, leb}
use lib.ListN.{length}
use Rattle.text.specs.Text.{bytes}
use Rattle.text.specs.Format.{same}
use Rattle.values.specs.Entries.{continues_name}
use Rattle.values.specs.Listed.{Name, listed}
use Rattle.shader.specs.Names.{Token, word, mark, joined, tokens, starts, is_name, declares, Occurrence, row_behind, occurrence_of, found_at, occurs_in}
use Rattle.shader.proofs.Names.Truth.{true_of, false_of, and_fst, and_snd, neither_fst, neither_snd, cond_cases, either}

-- the tokens b end as the tokens of some front of s do
abbrev starts_later : List Token → List Token → Bool
starts_later [] b = false
starts_later (t ∷ p) b = starts (t ∷ p) b || starts_later p b

-- The tokens, last first, of each text that matters to a word behind it.
abbrev stop : List Token
stop = mark 46 ∷ []

abbrev blank : List ℕ → List Token
blank w = mark 32 ∷ word w ∷ []

abbrev angled : List ℕ → List Token
angled w = mark 32 ∷ mark 62 ∷ word (bytes "float") ∷ mark 60 ∷ word w ∷ []

abbrev typed : List (List Token)
typed =
    blank (bytes "Varyings") ∷ blank (bytes "sampler")
    ∷ blank (bytes "float") ∷ blank (bytes "float2") ∷ blank (bytes "float3") ∷ blank (bytes "float4")
    ∷ angled (bytes "texture2d") ∷ angled (bytes "texture3d") ∷ angled (bytes "texturecube") ∷ angled (bytes "depth2d") ∷ []

abbrev pointer : List Token
pointer = mark 42 ∷ blank (bytes "float4")

abbrev reference : List Token
reference = mark 38 ∷ blank (bytes "float")

abbrev any_starts : List (List Token) → List Token → Bool
any_starts [] b = false
any_starts (p ∷ r) b = starts p b || any_starts r b

abbrev any_later : List (List Token) → List Token → Bool
any_later [] b = false
any_later (p ∷ r) b = starts_later p b || any_later r b

-- the tokens b matter to a word behind them, or may after further tokens
abbrev pub matters : List Token → Bool
matters b = starts_later stop b || (any_later typed b || (starts_later pointer b || starts_later reference b))

starts_idle : (p x b : List Token) → T (not (starts_later p b)) → starts p (x ++ b) ≡ starts p x
starts_idle [] x b h = refl
starts_idle (t ∷ p) [] b h = false_of _ (neither_fst (starts (t ∷ p) b) (starts_later p b) h)
starts_idle (t ∷ p) (y ∷ x) b h = rw (starts_idle p x b (neither_snd (starts (t ∷ p) b) (starts_later p b) h))

any_idle : (r : List (List Token)) (x b : List Token) → T (not (any_later r b)) → any_starts r (x ++ b) ≡ any_starts r x
any_idle [] x b h = refl
any_idle (p ∷ r) x b h =
    let e = starts_idle p x b (neither_fst (starts_later p b) (any_later r b) h) in
    let f = any_idle r x b (neither_snd (starts_later p b) (any_later r b) h) in
    cc

module _ (x b : List Token) (h : T (not (matters b))) where
  name_idle : (w : List ℕ) → is_name (x ++ b) w ≡ is_name x w
  name_idle w = rw (starts_idle stop x b (neither_fst (starts_later stop b) _ h))

  declares_idle : declares (x ++ b) ≡ declares x
  declares_idle =
      let no-type = neither_snd (starts_later stop b) _ h in
      let no-blank = neither_snd (any_later typed b) _ no-type in
      cc (
        any_idle typed x b (neither_fst (any_later typed b) _ no-type),
        starts_idle pointer x b (neither_fst (starts_later pointer b) _ no-blank),
        starts_idle reference x b (neither_snd (starts_later pointer b) _ no-blank),
      )

  found_idle : (w : List ℕ) (behind : List Token) → found_at (x ++ b) w behind ≡ found_at x w behind
  found_idle w behind = go (listed w)
    where
      go : (n : Option Name)
          → cond (is_name (x ++ b) w) (occurrence_of (x ++ b) w behind n) [] ≡ cond (is_name x w) (occurrence_of x w behind n) []
      go none = rw (name_idle w)
      go (some n) = rw (name_idle w, declares_idle)

idle : (ts x b : List Token) → T (not (matters b)) → occurs_in (x ++ b) ts ≡ occurs_in x ts
idle [] x b h = refl
idle (mark c ∷ ts) x b h = idle ts (mark c ∷ x) b h
idle (word w ∷ ts) x b h = cc (found_idle x b h w ts, idle ts (word w ∷ x) b h)

-- tokens that cannot matter are forgotten
abbrev pub kept : List Token → List Token
kept b = cond (matters b) b []

kept_occurs : (ts b : List Token) → occurs_in (kept b) ts ≡ occurs_in b ts
kept_occurs ts b = cond_cases (matters b) b [] (λ x. occurs_in x ts ≡ occurs_in b ts) (λ t. refl) (λ t. sym (idle ts [] b t))

abbrev pub scan : List Token → List Token → List Occurrence
scan before [] = []
scan before (mark c ∷ ts) = scan (kept (mark c ∷ before)) ts
scan before (word w ∷ ts) = found_at before w ts ++ scan (kept (word w ∷ before)) ts

-- The scan finds what 01 says.
pub scan_occurs : (ts before : List Token) → scan before ts ≡ occurs_in before ts
scan_occurs [] before = refl
scan_occurs (mark c ∷ ts) before = scan_occurs ts (kept (mark c ∷ before)) ∙ kept_occurs ts (mark c ∷ before)
scan_occurs (word w ∷ ts) before = cc (scan_occurs ts (kept (word w ∷ before)), kept_occurs ts (word w ∷ before))

-- a word's end: no byte of a word stands first
abbrev pub breaks : List ℕ → Bool
breaks [] = true
breaks (c ∷ r) = not (continues_name c)

-- a mark stands last
abbrev pub ended : List ℕ → Bool
ended [] = true
ended (c ∷ []) = not (continues_name c)
ended (c ∷ (d ∷ w)) = ended (d ∷ w)

-- nothing but bytes of a word
abbrev pub letters : List ℕ → Bool
letters [] = true
letters (c ∷ w) = continues_name c && letters w

joined_break : (c : ℕ) (r : List ℕ) → T (breaks r) → joined c (tokens r) ≡ word (c ∷ []) ∷ tokens r
joined_break c [] t = refl
joined_break c (d ∷ r) t = rw (false_of (continues_name d) t)

joined_joined : (c d : ℕ) (ts us : List Token) → joined c (joined d ts ++ us) ≡ joined c (joined d ts) ++ us
joined_joined c d [] us = refl
joined_joined c d (mark e ∷ ts) us = refl
joined_joined c d (word w ∷ ts) us = refl

joined-append : (c d : ℕ) (w : List ℕ) (us : List Token) → joined c (tokens (d ∷ w) ++ us) ≡ joined c (tokens (d ∷ w)) ++ us
joined-append c d w us =
    cond_cases (continues_name d) (joined d (tokens w)) (mark d ∷ tokens w) (λ ts. joined c (ts ++ us) ≡ joined c ts ++ us)
    (λ t. joined_joined c d (tokens w) us) (λ t. refl)

-- a text is cut into tokens part by part, where no word goes on from one part to the next
pub tokens_append : (w r : List ℕ) → T (ended w || breaks r) → tokens (w ++ r) ≡ tokens w ++ tokens r
tokens_append [] r t = refl
tokens_append (c ∷ []) r t = go (continues_name c) t
  where
    go : (b : Bool) → T (not b || breaks r)
        → cond b (joined c (tokens r)) (mark c ∷ tokens r) ≡ cond b (word (c ∷ []) ∷ []) (mark c ∷ []) ++ tokens r
    go true t = joined_break c r t
    go false t = refl
tokens_append (c ∷ (d ∷ w)) r t = go (continues_name c) (tokens_append (d ∷ w) r t)
  where
    go : (b : Bool) → tokens ((d ∷ w) ++ r) ≡ tokens (d ∷ w) ++ tokens r
        → cond b (joined c (tokens ((d ∷ w) ++ r))) (mark c ∷ tokens ((d ∷ w) ++ r)) ≡ cond b (joined c (tokens (d ∷ w))) (mark c ∷ tokens (d ∷ w)) ++ tokens r
    go true e = ap (joined c) e ∙ joined-append c d w (tokens r)
    go false e = ap (λ (ts : List Token). mark c ∷ ts) e

-- a run of bytes of a word is one word
pub tokens_letters : (c : ℕ) (w : List ℕ) → T (letters (c ∷ w)) → tokens (c ∷ w) ≡ word (c ∷ w) ∷ []
tokens_letters c [] t = rw (true_of (continues_name c) (and_fst (continues_name c) true t))
tokens_letters c (d ∷ w) t =
    let e : continues_name c ≡ true = true_of _ (and_fst (continues_name c) (letters (d ∷ w)) t) in
    rw e (ap (joined c) (tokens_letters d w (and_snd (continues_name c) (letters (d ∷ w)) t)))

-- what stands before, after some tokens
abbrev pub after : List Token → List Token → List Token
after before [] = before
after before (t ∷ ts) = after (kept (t ∷ before)) ts

-- no row of `ps_c` is cut short at the end
abbrev pub settled : List Token → Bool
settled [] = true
settled (mark c ∷ ts) = settled ts
settled (word w ∷ ts) = (leb 3 (length ts) || not (same (bytes "ps_c") w)) && settled ts

row-append : (ts us : List Token) → T (leb 3 (length ts)) → row_behind (ts ++ us) ≡ row_behind ts
row-append [] us t = absurd t
row-append (a ∷ []) us t = absurd t
row-append (a ∷ (b ∷ [])) us t = absurd t
row-append (a ∷ (b ∷ (c ∷ ts))) us t = refl

found-append : (before : List Token) (w : List ℕ) (ts us : List Token) → T (leb 3 (length ts) || not (same (bytes "ps_c") w))
    → found_at before w (ts ++ us) ≡ found_at before w ts
found-append before w ts us t = go (listed w)
  where
    rows : cond (same (bytes "ps_c") w) (row_behind (ts ++ us)) [] ≡ cond (same (bytes "ps_c") w) (row_behind ts) []
    rows =
        either (leb 3 (length ts)) (not (same (bytes "ps_c") w)) (λ l. rw (row-append ts us l))
        (λ n. rw (false_of (same (bytes "ps_c") w) n)) t

    go : (n : Option Name)
        → cond (is_name before w) (occurrence_of before w (ts ++ us) n) [] ≡ cond (is_name before w) (occurrence_of before w ts n) []
    go none = refl
    go (some n) = cc rows

-- the scan goes part by part
pub scan-append : (ts us before : List Token) → T (settled ts) → scan before (ts ++ us) ≡ scan before ts ++ scan (after before ts) us
scan-append [] us before t = refl
scan-append (mark c ∷ ts) us before t = scan-append ts us (kept (mark c ∷ before)) t
scan-append (word w ∷ ts) us before t =
    let e = found-append before w ts us (and_fst (leb 3 (length ts) || not (same (bytes "ps_c") w)) (settled ts) t) in
    let f = scan-append ts us (kept (word w ∷ before)) (and_snd (leb 3 (length ts) || not (same (bytes "ps_c") w)) (settled ts) t) in
    cc (append_assoc (found_at before w ts) (scan (kept (word w ∷ before)) ts) (scan (after (kept (word w ∷ before)) ts) us))

-- What was read, by cases: a refusal with its number, or a record with all that is known of it.
use mathlib.Core.Path.{◌≡◌, refl, sym, ap, subst, ◌∙◌}
use mathlib.Core.Bool.{Bool, true, false, cond}
use mathlib.Core.List.{List, [], ◌∷◌, ◌++◌}
use Prim.Native.Nat.{ℕ, suc, ◌≤◌}
use native.Mathlib.Omega.{arith}
use borrow.Author.Tests.{eqb-true, ltb-false}
use lib.Dec.{eqb, ltb}
use lib.ListN.{length, take, drop, get_or, take-append-drop}
use Rattle.std.specs.Prelude.{Result, Ok, Err}
use Rattle.values.specs.Refusals.{number_of, answer_number}
use Rattle.values.specs.declared.Refusal.{Refusal}
use Rattle.values.specs.declared.Refusal.TheVariants.{CutShort, UnknownKind, SpecularAdd}
use Rattle.values.specs.declared.Key.{Key}
use Rattle.values.specs.declared.Variant.{Variant}
use Rattle.values.specs.declared.Entry.{Entry}
use Rattle.values.specs.declared.StateWrite.{StateWrite}
use Rattle.states.specs.States.{wide_stages}
use Rattle.states.proofs.Accepted.{check_cases}
use Rattle.values.specs.Steps.{◌>>=◌}
use Rattle.wire.specs.Bodies.{kind_byte, kind_of, body_length, record_length, record_bytes, record_from_body, state_from_body}
use Rattle.wire.specs.Values.{key_as, key_record, own}
use Rattle.wire.specs.Reading.{kind_from, number_by, took, specular_in, read_body, read_as, read_record, body_number, record_number}
use Rattle.wire.specs.Writing.{value_number}
use Rattle.wire.specs.declared.Kind.{Kind}
use Rattle.wire.specs.declared.Kind.TheVariants as kind
use Rattle.wire.specs.declared.Record.{Record}
use Rattle.wire.specs.declared.Record.TheVariants as rec
use Rattle.wire.specs.declared.Reading.{Reading}
use Rattle.wire.proofs.Bodies.{Shaped, Bytes, Free, kind_again, own_again, shaped_again, bytes_again}
use Rattle.wire.proofs.Causes.{either, value_cases}

-- what is known of the record that was taken from the front of b
pub record Taken (b : List ℕ) (r : Record) : Type 0 where
  pub number : record_number b ≡ 0
  pub first : get_or b 0 0 ≡ kind_byte (kind_of r)
  pub within : record_length (kind_of r) ≤ length b
  pub settled : own r ≡ r
  pub shaped : Shaped r
  pub free : Free r
  pub bytes : Bytes b → record_bytes r ≡ take (record_length (kind_of r)) b

-- a byte that names a kind, and one that names none
pub kind_cases : (P : Result Kind Refusal → Type 0) (x : ℕ) → ((k : Kind) → x ≡ kind_byte k → P (Ok k)) → P (Err UnknownKind) → P (kind_from x)
kind_cases P x p q =
    test 1 kind.Key _ (p kind.Key) (test 2 kind.Variant _ (p kind.Variant) (test 3 kind.Entry _ (p kind.Entry)
    (test 4 kind.Emit _ (p kind.Emit) (test 5 kind.State _ (p kind.State) (test 6 kind.WideKey _ (p kind.WideKey) q)))))
  where
    test : (n : ℕ) (k : Kind) (other : Result Kind Refusal) → (x ≡ n → P (Ok k)) → P other → P (cond (eqb x n) (Ok k) other)
    test n k other p q = go (eqb x n) (eqb-true x n)
      where
        go : (t : Bool) → (t ≡ true → x ≡ n) → P (cond t (Ok k) other)
        go true e = p (e refl)
        go false e = q

-- the number of a body is that of its value, and behind it 4
body_split : (k : Kind) (b : List ℕ) → value_number (record_from_body k b) (cond (ltb 1 (specular_in k b)) 4 0) ≡ body_number k b
unfolding value_number body_number
body_split kind.Key b = refl
body_split kind.Variant b = refl
body_split kind.Entry b = refl
body_split kind.Emit b = refl
body_split kind.State b =
    check_cases (λ (a : Bool) (n : ℕ) (c : Result (Unit {0}) Refusal). cond a 0 n ≡ n) (state_from_body b) (λ c. refl) (λ _. refl)
body_split kind.WideKey b = refl

-- P of a refusal, and P of a record that can be taken, give P of what was read.
module _ (P : Result Reading Refusal → Type 0) where
  module _ (x : ℕ) (b : List ℕ) (refusal : (c : Refusal) → record_number (x ∷ b) ≡ number_of c → P (Err c))
      (taken : (r : Record) → Taken (x ∷ b) r → P (took r)) where
    abbrev Q : ℕ → Result Reading Refusal → Type 0
    Q n a = record_number (x ∷ b) ≡ n → P a

    record_cases : (k : Kind) → x ≡ kind_byte k → body_length k ≤ length b → Free (record_from_body k b) → specular_in k b ≤ 1 →
        Q 0 (took (record_from_body k b))
    record_cases k e h f s n =
        let r = record_from_body k b in
        let of_kind : kind_of r ≡ k = kind_again k b in
        let length : record_length (kind_of r) ≡ suc (body_length k) = ap record_length of_kind ∙ omega arith in
        taken r
        (record {
          number = n;
          first = e ∙ ap kind_byte (sym of_kind);
          within = omega (arith, length);
          settled = own_again k b;
          shaped = shaped_again k b h;
          free = f;
          bytes = λ w. rw (length, of_kind, ← e, bytes_again k b (λ i. w (suc i)) h s);
        })

    body_cases : (k : Kind) → x ≡ kind_byte k → body_length k ≤ length b → Q (body_number k b) (read_body k b)
    unfolding read_body
    body_cases k e h =
        let r = record_from_body k b in
        subst (λ (n : ℕ). Q n (read_body k b)) (body_split k b)
        (value_cases (λ (n : ℕ) (a : Result (Unit {0}) Refusal). Q n (a >>= (λ _. cond (ltb 1 (specular_in k b)) (Err SpecularAdd) (took r)))) r _ refusal (λ f.
        either Q (ltb 1 (specular_in k b)) _ _ _ _ (λ _. refusal SpecularAdd) (λ s. record_cases k e h f (ltb-false _ _ s))))

    as_cases : (k : Kind) → x ≡ kind_byte k → Q (cond (ltb (length b) (body_length k)) 1 (body_number k b)) (read_as k b)
    unfolding read_as
    as_cases k e = either Q (ltb (length b) (body_length k)) _ _ _ _ (λ _. refusal CutShort) (λ s. body_cases k e (ltb-false _ _ s))

  pub read_either : (b : List ℕ) → ((c : Refusal) → record_number b ≡ number_of c → P (Err c)) → ((r : Record) → Taken b r → P (took r)) → P (read_record b)
  unfolding read_record record_number
  read_either [] refusal taken = refusal CutShort refl
  read_either (x ∷ b) refusal taken =
      kind_cases
      (λ (named : Result Kind Refusal).
      Q x b refusal taken (number_by named (λ k. cond (ltb (length b) (body_length k)) 1 (body_number k b))) (named >>= (λ k. read_as k b))) x
      (as_cases x b refusal taken) (refusal UnknownKind) refl

-- P of a refusal, and P of a record of each kind; a key is of either kind, and what its kind has of it
pub record Cases (P : Result Reading Refusal → Type 0) (b : List ℕ) : Type 0 where
  pub refusal : (c : Refusal) → record_number b ≡ number_of c → P (Err c)
  pub key : (k : Key) → wide_stages k ≡ k.stages → Taken b (key_record k) → P (took (key_record k))
  pub variant : (v : Variant) → Taken b (rec.Variant v) → P (took (rec.Variant v))
  pub entry : (e : Entry) → Taken b (rec.Entry e) → P (took (rec.Entry e))
  pub emit : Taken b rec.Emit → P (took rec.Emit)
  pub state : (w : StateWrite) → Taken b (rec.State w) → P (took (rec.State w))

-- a record of a key that was read is of the key's own kind, and has all that the key has
module _ (k : Key) where
  abbrev key_in : Record → Key
  key_in (rec.Key k) = k
  key_in (rec.WideKey k) = k
  key_in r = k

  pub key_kept : (wide : Bool) → key_as wide k ≡ k → (k.wide ≡ wide) × (wide_stages k ≡ k.stages)
  unfolding wide_stages
  key_kept true e = let w : k.wide ≡ true = sym (ap (λ (k : Key). k.wide) e) in (w, rw w)
  key_kept false e = let w : k.wide ≡ false = sym (ap (λ (k : Key). k.wide) e) in (w, rw w (ap (λ (k : Key). k.stages) e))

module _ (P : Result Reading Refusal → Type 0) (b : List ℕ) (cases : Cases P b) where
  taken_cases : (r : Record) → Taken b r → P (took r)
  taken_cases (rec.Key k) t =
      let s = key_kept k false (ap (key_in k) t.settled) in
      let e : key_record k ≡ rec.Key k = rw s.0 in
      subst (λ (r : Record). P (took r)) e (cases.key k s.1 (subst (Taken b) (sym e) t))
  taken_cases (rec.Variant v) t = cases.variant v t
  taken_cases (rec.Entry e) t = cases.entry e t
  taken_cases rec.Emit t = cases.emit t
  taken_cases (rec.State w) t = cases.state w t
  taken_cases (rec.WideKey k) t =
      let s = key_kept k true (ap (key_in k) t.settled) in
      let e : key_record k ≡ rec.WideKey k = rw s.0 in
      subst (λ (r : Record). P (took r)) e (cases.key k s.1 (subst (Taken b) (sym e) t))

  pub read_cases : P (read_record b)
  read_cases = read_either P b cases.refusal taken_cases

-- The reader's number is that of 01's table.
pub read_number_lem : {a : Result Reading Refusal} (b : List ℕ) → a ≡ read_record b → answer_number a ≡ record_number b
read_number_lem b e =
    ap answer_number e ∙ read_either (λ (a : Result Reading Refusal). answer_number a ≡ record_number b) b (λ c n. sym n) (λ r t. sym t.number)

-- what a record that was read tells
pub read_taken : (b : List ℕ) (r : Reading) → read_record b ≡ Ok r → Taken b r.«record» × (record_length (kind_of r.«record») ≡ r.length)
read_taken b r =
    read_either (λ (a : Result Reading Refusal). a ≡ Ok r → Taken b r.«record» × (record_length (kind_of r.«record») ≡ r.length)) b
    (λ c n e. absurd (let z : ◌≡◌ {A = ℕ} 0 1 = cc in omega arith))
    (λ s t e.
    let same : s ≡ r.«record» = cc in
    let n : record_length (kind_of s) ≡ r.length = cc in
    (subst (Taken b) same t, ap (λ (r : Record). record_length (kind_of r)) (sym same) ∙ n))

-- The bytes are those of the record that was taken, and what stands behind them.
pub front : (b : List ℕ) (r : Record) → Taken b r → Bytes b → b ≡ record_bytes r ++ drop (record_length (kind_of r)) b
front b r t w =
    let n = record_length (kind_of r) in
    sym (take-append-drop n b) ∙ ap (λ (l : List ℕ). l ++ drop n b) (sym (t.bytes w))

-- What the writer answers, by cases: a refusal with its number, or the length of a record that is free of causes and fits.
use mathlib.Core.Path.{◌≡◌, refl, sym, ap, ◌∙◌}
use Prim.Native.Nat.{ℕ, ◌≤◌}
use native.Mathlib.Omega.{arith}
use borrow.Author.Tests.{le-ltb, ltb-false}
use lib.Dec.{ltb}
use Rattle.std.specs.Prelude.{Result, Ok, Err}
use Rattle.values.specs.Refusals.{number_of, answer_number}
use Rattle.values.specs.declared.Refusal.{Refusal}
use Rattle.values.specs.declared.Refusal.TheVariants.{NoRoom}
use Rattle.values.specs.Steps.{◌>>=◌}
use Rattle.wire.specs.Bodies.{kind_of, record_length}
use Rattle.wire.specs.Writing.{write_into, write_answer, written_number}
use Rattle.wire.specs.declared.Record.{Record}
use Rattle.wire.proofs.Bodies.{Free}
use Rattle.wire.proofs.Causes.{either, value_cases, free_checks}

-- a record without a cause, and with room for it
pub fits_writes : (r : Record) (room : ℕ) → Free r → record_length (kind_of r) ≤ room → write_answer r room ≡ Ok (record_length (kind_of r))
fits_writes r room f h = rw (free_checks r f, le-ltb room (record_length (kind_of r)) h)

-- what is known of the record that was written into a buffer of a length
pub record Written (r : Record) (room : ℕ) : Type 0 where
  pub number : written_number r room ≡ 0
  pub free : Free r
  pub fits : record_length (kind_of r) ≤ room

module _ (P : Result ℕ Refusal → Type 0) (r : Record) (room : ℕ) where
  abbrev Q : ℕ → Result ℕ Refusal → Type 0
  Q n a = written_number r room ≡ n → P a

  -- P of a refusal and P of a record that was written give P of what the writer answers.
  pub write_cases : ((c : Refusal) → written_number r room ≡ number_of c → P (Err c)) → (Written r room → P (Ok (record_length (kind_of r)))) →
      P (write_answer r room)
  write_cases refusal written =
      value_cases (λ (n : ℕ) (a : Result (Unit {0}) Refusal). Q n (a >>= (λ _. write_into room r))) r _ refusal (λ f.
      either Q (ltb room (record_length (kind_of r))) _ _ _ _ (λ _. refusal NoRoom) (λ s n.
      written (record { number = n; free = f; fits = ltb-false _ _ s })))
      refl

-- The writer's number is that of 01's table.
pub write_number_lem : {a : Result ℕ Refusal} (r : Record) (room : ℕ) → a ≡ write_answer r room → answer_number a ≡ written_number r room
write_number_lem r room e =
    ap answer_number e ∙ write_cases (λ (a : Result ℕ Refusal). answer_number a ≡ written_number r room) r room (λ c n. sym n) (λ w. sym w.number)

-- what the answer `Ok` tells
pub wrote : (r : Record) (room n : ℕ) → write_answer r room ≡ Ok n → Written r room × (record_length (kind_of r) ≡ n)
wrote r room n =
    write_cases (λ (a : Result ℕ Refusal). a ≡ Ok n → Written r room × (record_length (kind_of r) ≡ n)) r room
    (λ c k e. absurd (let z : ◌≡◌ {A = ℕ} 0 1 = cc in omega arith))
    (λ w e. (w, cc))

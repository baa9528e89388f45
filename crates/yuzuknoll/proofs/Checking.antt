-- What number 0 tells of the record at the front of some bytes: that it was taken; and its kind.
use Prim.Native.Nat.{ℕ}
use mathlib.Core.Path.{◌≡◌, sym, ◌∙◌}
use mathlib.Core.List.{List}
use native.Mathlib.Omega.{arith}
use Rattle.std.specs.Prelude.{Result, Ok, Err}
use Rattle.values.specs.declared.Refusal.{Refusal}
use Rattle.wire.specs.Bodies.{kind_of}
use Rattle.wire.specs.Reading.{read_record, record_number}
use Rattle.wire.specs.declared.Kind.{Kind}
use Rattle.wire.specs.declared.Reading.{Reading}
use Rattle.wire.proofs.Found.{Taken, read_either}
use Rattle.inspection.specs.Kinds.{kind_read}
use Rattle.inspection.proofs.Numbers.{not_zero}
use Rattle.yuzuknoll.specs.Records.{found, kind_in}

-- number 0: the record was taken
pub taken : (b : List ℕ) → record_number b ≡ 0 → Taken b (found (read_record b))
taken b =
    read_either (λ (x : Result Reading Refusal). record_number b ≡ 0 → Taken b (found x)) b (λ c n z. absurd (not_zero c (sym n ∙ z))) (λ r t z. t)

-- the kind that is answered is the record's
pub kind_told : (b : List ℕ) {k : Kind} → Ok k ≡ kind_read (read_record b) → k ≡ kind_in b
kind_told b {k} = go (read_record b)
  where
    go : (x : Result Reading Refusal) → Ok k ≡ kind_read x → k ≡ kind_of (found x)
    go (Ok x) e = cc
    go (Err c) e = absurd (let z : ◌≡◌ {A = ℕ} 0 1 = cc in omega arith)

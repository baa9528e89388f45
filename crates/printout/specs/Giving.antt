-- A closure that is given some bytes, part by part.
use Rattle.std.specs.Prelude.{ℕ, ◌≡◌, List, [], ◌++◌, Result, Ok, Err}
use Rattle.std.specs.Borrow.{Bor}
use Rattle.std.specs.Fn.{Mut, CalledAt}
use Rattle.std.specs.List.{FoldsTo, concat}

-- Calls took the closure from f to g, one behind another, and each accepted its part. The parts, and rest behind them, are bs.
pub record Gave {F E : Type 0} (print : Mut F (Bor (List ℕ) × Unit {0}) (Result (Unit {0}) E)) (f : F) (bs : List ℕ) (g : F) (rest : List ℕ) : Type 0 where
  pub parts : List (List ℕ)
  pub calls : FoldsTo (λ p x q. CalledAt print p x (Ok tt) q) f parts g
  pub whole : concat parts ++ rest ≡ bs

-- Such calls took the closure from f to one that refused the part behind those with e, and is g after that.
pub record Refused {F E : Type 0} (print : Mut F (Bor (List ℕ) × Unit {0}) (Result (Unit {0}) E)) (f : F) (bs : List ℕ) (e : E) (g : F) : Type 0 where
  pub last : F
  pub part : List ℕ
  pub more : List ℕ
  pub gave : Gave print f bs last (part ++ more)
  pub refused : CalledAt print last part (Err e) g

-- all of bs was accepted
pub record GaveAll {F E : Type 0} (print : Mut F (Bor (List ℕ) × Unit {0}) (Result (Unit {0}) E)) (f : F) (bs : List ℕ) : Type 0 where
  pub last : F
  pub gave : Gave print f bs last []

-- the part behind those that were accepted was refused with e
pub record GaveUntil {F E : Type 0} (print : Mut F (Bor (List ℕ) × Unit {0}) (Result (Unit {0}) E)) (f : F) (bs : List ℕ) (e : E) : Type 0 where
  pub after : F
  pub refused : Refused print f bs e after

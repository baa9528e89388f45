-- What one part that a closure is given does to what is left, where it is accepted and where it is refused. Only the contract of the inner `give` cites it.
use Rattle.std.specs.Prelude.{ℕ, List, ◌++◌, Result}
use Rattle.std.specs.Borrow.{Bor}
use Rattle.std.specs.Fn.{Mut}
use Rattle.printout.specs.Giving.{Gave, Refused}

abbrev pub Accepts : {F E : Type 0} → Mut F (Bor (List ℕ) × Unit {0}) (Result (Unit {0}) E) → F → List ℕ → F → Type 0
Accepts {F} print g part h = (f : F) (bs rest : List ℕ) → Gave print f bs g (part ++ rest) → Gave print f bs h rest

abbrev pub Refuses : {F E : Type 0} → Mut F (Bor (List ℕ) × Unit {0}) (Result (Unit {0}) E) → F → List ℕ → E → F → Type 0
Refuses {F} print g part e h = (f : F) (bs rest : List ℕ) → Gave print f bs g (part ++ rest) → Refused print f bs e h

-- One step behind another, each of which may refuse.
use Rattle.std.specs.Prelude.{Result, Ok, Err}
use Rattle.values.specs.declared.Refusal.{Refusal}

infixl 10 ◌>>=◌
abbrev pub ◌>>=◌ : {A B : Type 0} → Result A Refusal → (A → Result B Refusal) → Result B Refusal
Ok x >>= f = f x
Err c >>= f = Err c

-- What is left to copy, copied into the buffer as it is, makes what copying all into the buffer as it came makes.
use Rattle.std.proofs.Common.{drop, ◌+◌, ◌≡◌}
use Rattle.std.proofs.lemmas.List.Edits.{sets}
use Rattle.text.specs.Marks.{filled}
use Rattle.text.proofs.copy.Given as goal

abbrev pub invariant-loop-i : goal.invariant-loop-i
invariant-loop-i l = sets l.out (l.at + l.i) (drop l.i (filled l.digit l.s)) ≡ sets l.fn.out l.at (filled l.digit l.s)

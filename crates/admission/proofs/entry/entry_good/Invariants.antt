-- No byte so far was wrong and those to come are right, from where the state stands, exactly where the entry is good.
use Rattle.std.proofs.Common.{◌≡◌, ◌+◌, Bool, ◌&&◌, ℕ, List, length, drop}
use Rattle.values.specs.Entries.{entry_good}
use Rattle.admission.specs.declared.entry.Pass.{Pass}
use Rattle.admission.proofs.Passes.{right_from}
use Rattle.admission.proofs.entry.entry_good.Given as goal

-- no byte so far was wrong, and those to come are right from where the state stands
abbrev pub good_with : Bool → Pass → List ℕ → Bool
good_with good p l = good && right_from p.taken p.length l

abbrev pub invariant-loop-byte : goal.invariant-loop-byte
invariant-loop-byte l =
    record {
      whole : length l.fn.entry.name ≡ 32;
      taken : l.pass.taken ≡ l.byte-index + 1;
      judged : good_with l.good l.pass (drop l.byte-index l.fn.entry.name) ≡ entry_good l.fn.entry;
    }

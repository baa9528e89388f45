-- As far as the search has come all stages are active.
use Rattle.std.proofs.Common.{◌+◌, ◌-◌, ◌≤◌, ◌≡◌, length, drop}
use Rattle.cascade.specs.Keys.{active_count}
use Rattle.cascade.proofs.keys.active_count.Given as goal

abbrev pub invariant-loop-i : goal.invariant-loop-i
invariant-loop-i l =
    record {
      within : l.i ≤ 8;
      eight : length l.k.stages ≡ 8;
      counted : l.i + active_count (drop l.i l.k.stages) ≡ active_count l.k.stages;
    }

abbrev pub decreases-loop-i : goal.decreases-loop-i
decreases-loop-i l = 8 - l.i

-- What was given and what is left are the output. Each record takes a byte at least, which ends the loop.
use Rattle.printout.specs.Giving.{Gave}
use Rattle.printout.specs.Program.{records_output}
use Rattle.printout.proofs.Printed.{Within, left_for, still_left}
use Rattle.printout.proofs.print_through.Given as goal

abbrev pub invariant-loop-next : goal.invariant-loop-next
invariant-loop-next g l =
    record {
      callable : goal.F-IsAlwaysCallable g l.print;
      within : Within l.input l.next;
      gave : Gave g.F.FnMut l.fn.print (records_output l.fn.input) l.print (left_for l.next l.input);
    }

abbrev pub decreases-loop-next : goal.decreases-loop-next
decreases-loop-next g l = still_left l.next l.input

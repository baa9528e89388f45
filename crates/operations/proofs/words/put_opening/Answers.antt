-- Each arm writes the words that it matched.
use Rattle.operations.proofs.words.put_opening.Goals as goal

pub returns-in-SaturateTwice : goal.returns-in-SaturateTwice
returns-in-SaturateTwice c = rw c.in-SaturateTwice.is c.put-in-SaturateTwice.ensures.written

pub returns-in-SaturateFourTimes : goal.returns-in-SaturateFourTimes
returns-in-SaturateFourTimes c = rw c.in-SaturateFourTimes.is c.put-in-SaturateFourTimes.ensures.written

pub returns-in-SaturateTwiceSum : goal.returns-in-SaturateTwiceSum
returns-in-SaturateTwiceSum c = rw c.in-SaturateTwiceSum.is c.put-in-SaturateTwiceSum.ensures.written

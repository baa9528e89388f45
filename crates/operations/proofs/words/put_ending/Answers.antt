-- Each arm writes the words that it matched.
use Rattle.operations.proofs.words.put_ending.Goals as goal

pub returns-in-TimesInverseArg1 : goal.returns-in-TimesInverseArg1
returns-in-TimesInverseArg1 c = rw c.in-TimesInverseArg1.is c.put_around.ensures

-- Each arm writes the words that it matched.
use Rattle.operations.proofs.words.put_joining.Goals as goal

pub returns-in-TimesFactorAlphaPlus : goal.returns-in-TimesFactorAlphaPlus
returns-in-TimesFactorAlphaPlus c = rw c.in-TimesFactorAlphaPlus.is c.put-in-TimesFactorAlphaPlus.ensures.written

pub returns-in-TimesCurrentAlphaPlus : goal.returns-in-TimesCurrentAlphaPlus
returns-in-TimesCurrentAlphaPlus c = rw c.in-TimesCurrentAlphaPlus.is c.put-in-TimesCurrentAlphaPlus.ensures.written

pub returns-in-PlusInverseArg1AlphaTimes : goal.returns-in-PlusInverseArg1AlphaTimes
returns-in-PlusInverseArg1AlphaTimes c = rw c.in-PlusInverseArg1AlphaTimes.is c.put_around-in-PlusInverseArg1AlphaTimes.ensures

pub returns-in-PlusInverseArg0Times : goal.returns-in-PlusInverseArg0Times
returns-in-PlusInverseArg0Times c = rw c.in-PlusInverseArg0Times.is c.put_around-in-PlusInverseArg0Times.ensures

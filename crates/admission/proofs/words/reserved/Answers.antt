-- Each arm tests the patterns of its length, which are the reserved words of that length; there are none of another.
use Rattle.std.proofs.Common.{rules, ◌∙◌}
use Rattle.admission.proofs.Reserved.{of_length_lem, of_no_length}
use Rattle.admission.proofs.words.reserved.Goals as goal

pub returns-in-2 : goal.returns-in-2
returns-in-2 c = (rw c.in-2.is at c.fits_any.ensures) ∙ of_length_lem 2 _ c.in-2.is

pub returns-in-3 : goal.returns-in-3
returns-in-3 c = (rw c.in-3.is at c.fits_any-in-3.ensures) ∙ of_length_lem 3 _ c.in-3.is

pub returns-in-4 : goal.returns-in-4
returns-in-4 c = (rw c.in-4.is at c.fits_any-in-4.ensures) ∙ of_length_lem 4 _ c.in-4.is

pub returns-in-5 : goal.returns-in-5
returns-in-5 c = (rw c.in-5.is at c.fits_any-in-5.ensures) ∙ of_length_lem 5 _ c.in-5.is

pub returns-in-6 : goal.returns-in-6
returns-in-6 c = (rw c.in-6.is at c.fits_any-in-6.ensures) ∙ of_length_lem 6 _ c.in-6.is

pub returns-in-7 : goal.returns-in-7
returns-in-7 c = (rw c.in-7.is at c.fits_any-in-7.ensures) ∙ of_length_lem 7 _ c.in-7.is

pub returns-in-8 : goal.returns-in-8
returns-in-8 c = (rw c.in-8.is at c.fits_any-in-8.ensures) ∙ of_length_lem 8 _ c.in-8.is

pub returns-in-9 : goal.returns-in-9
returns-in-9 c = (rw c.in-9.is at c.fits_any-in-9.ensures) ∙ of_length_lem 9 _ c.in-9.is

pub returns-in-11 : goal.returns-in-11
returns-in-11 c = (rw c.in-11.is at c.fits_any-in-11.ensures) ∙ of_length_lem 11 _ c.in-11.is

pub returns-in-21 : goal.returns-in-21
returns-in-21 c = (rw c.in-21.is at c.fits_any-in-21.ensures) ∙ of_length_lem 21 _ c.in-21.is

pub returns-in_default : goal.returns-in_default
returns-in_default c = of_no_length _ (search rules)

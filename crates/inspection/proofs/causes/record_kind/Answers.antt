-- The answer is the one with the number of the bytes, and with the kind that their first byte names.
use Rattle.std.proofs.Common.{rules, Ok}
use Rattle.wire.specs.Reading.{record_number}
use Rattle.inspection.proofs.Numbers.{kind_answer}
use Rattle.inspection.proofs.causes.record_kind.Goals as goal

pub returns-in_err-byte-clause-kind : goal.returns-in_err-byte-clause-kind
unfolding record_number
returns-in_err-byte-clause-kind c = kind_answer _ _ (search rules) (λ k e. search rules)

pub returns-in_err-kind-clause-kind : goal.returns-in_err-kind-clause-kind
unfolding record_number
returns-in_err-kind-clause-kind c = kind_answer _ _ (search rules) (λ k e. search rules)

pub returns-in_err-kind_cause-clause-kind : goal.returns-in_err-kind_cause-clause-kind
unfolding record_number
returns-in_err-kind_cause-clause-kind c = kind_answer _ _ (search rules) (λ k e. search rules)

pub returns-clause-kind : goal.returns-clause-kind
unfolding record_number
returns-clause-kind c = kind_answer _ (Ok c.in_ok-kind.kind) (search rules) (λ k e. search rules)

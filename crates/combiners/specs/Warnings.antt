-- Warnings: what an operation and an argument report, each with its stage, and the stages that a cause was reported of.
-- 01: "1 for an op without a text .., 2 for a resolved argument with selector 7 to 15, 4 for one with bits 0xc0".
-- 02: "Arguments and combiners must each report their own warning with their stage".
use Rattle.std.specs.Prelude.{ℕ, zero, suc, ◌+◌, ◌*◌, Bool, false, not, ◌&&◌, ◌||◌, cond, List, [], ◌∷◌, ◌++◌, eqb, leb}
use Rattle.combiners.specs.Codes.{selector}
use Rattle.combiners.specs.Combiners.{has_text, three_operands}

pub data Cause : Type 0 where
  op_cause selector_cause modifier_cause : Cause

-- the number of a cause in 01
abbrev pub cause_number : Cause → ℕ
cause_number op_cause = 1
cause_number selector_cause = 2
cause_number modifier_cause = 4

pub record Report : Type 0 where
  pub cause : Cause
  pub stage : ℕ

-- 02, of MULTIPLYADD and LERP: "in kind 6 these ops give no warning 1". In a key of kind 1 they take effect as an op without a text
-- (cascade/specs/Effective), which does.
abbrev pub without_text : ℕ → Bool
without_text o = not (has_text o)

abbrev pub unknown_selector : ℕ → Bool
unknown_selector a = leb 7 (selector a)

-- a byte from 0x40 on is one "with bits 0xc0": it has bit 0x40 or 0x80
abbrev pub unknown_modifier : ℕ → Bool
unknown_modifier a = leb 0x40 a

abbrev pub report_if : Bool → Cause → ℕ → List Report
report_if b cause i = cond b (record { cause = cause; stage = i } ∷ []) []

-- the operation that is picked at stage i
abbrev pub op_reports : ℕ → ℕ → List Report
op_reports i o = report_if (without_text o) op_cause i

-- an argument that is resolved at stage i
abbrev pub arg_reports : ℕ → ℕ → List Report
arg_reports i a = report_if (unknown_selector a) selector_cause i ++ report_if (unknown_modifier a) modifier_cause i

-- An operation applied to arguments 1, 2 and 0 at stage i. 02: "Argument 0 is resolved, for warnings too, exactly where the op is 25 or 26 and
-- arguments 1 and 2 are resolved".
unfoldable pub applied_reports : ℕ → ℕ → ℕ → ℕ → ℕ → List Report
applied_reports i o a b z = op_reports i o ++ (arg_reports i a ++ (arg_reports i b ++ cond (three_operands o) (arg_reports i z) []))

-- the cause was reported of stage i
unfoldable pub reported : Cause → ℕ → List Report → Bool
reported c i [] = false
reported c i (x ∷ r) = (eqb (cause_number c) (cause_number x.cause) && eqb i x.stage) || reported c i r

-- n stages from number i on as a mask, the lowest bit for the first of them
unfoldable pub mask_from : (ℕ → Bool) → ℕ → ℕ → ℕ
mask_from f i zero = 0
mask_from f i (suc n) = cond (f i) 1 0 + 2 * mask_from f (suc i) n

-- 02: "a mask of stages", those that the cause was reported of
abbrev pub reported_stages : Cause → List Report → ℕ
reported_stages c r = mask_from (λ i. reported c i r) 0 8

-- What plain arguments, combiners and stages leave out. Only contracts of private functions cite it: it need not be believed.
use Rattle.std.specs.Prelude.{ℕ, false, ◌≡◌}
use Rattle.combiners.specs.Codes as codes
use Rattle.combiners.specs.Combiners.{three_operands}
use Rattle.cascade.specs.Keys.{selects, reads_constant, blends_by_factor, names_factor}
use Rattle.cascade.specs.Reading.{reads_temp}
use Rattle.combiners.specs.Warnings.{selector_cause, modifier_cause, unknown_selector, unknown_modifier}
use Rattle.cascade.specs.Walks.{warns}
use Rattle.values.specs.declared.Combiner.{Combiner}
use Rattle.values.specs.declared.Stage.{Stage}

pub record PlainArgument (a : ℕ) : Type 0 where
  pub factor : selects codes.factor a ≡ false
  pub temp : selects codes.temp a ≡ false
  pub constant : selects codes.constant a ≡ false
  pub selector : unknown_selector a ≡ false
  pub modifier : unknown_modifier a ≡ false

pub record PlainCombiner (c : Combiner) : Type 0 where
  pub first : PlainArgument c.arg1
  pub second : PlainArgument c.arg2
  pub third : three_operands c.op ≡ false

pub record PlainStage (s : Stage) : Type 0 where
  pub factor : names_factor s ≡ blends_by_factor s
  pub temp : reads_temp s ≡ false
  pub constant : reads_constant s ≡ false
  pub selector : warns selector_cause s ≡ false
  pub modifier : warns modifier_cause s ≡ false

use Rattle.timefd_language.specs.declared.setting.Setting.{Setting}
use Rattle.timefd_language.proofs.value.precision_of.Goals as goal

pub returns : goal.returns
returns c = c.value_of.ensures (λ p. Setting.Precision p)

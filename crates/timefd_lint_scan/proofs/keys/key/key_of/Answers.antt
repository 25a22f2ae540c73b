use Rattle.std.proofs.Common.{refl}
use Rattle.std.specs.Prelude.{Err}
use Rattle.timefd_lint_scan.specs.declared.keys.key.KeyFault.TheVariants.{NoEqualsSign}
use Rattle.timefd_lint_scan.specs.Keys.Keys.{seen}
use Rattle.timefd_lint_scan.proofs.KeysLemmas.KeyLemmas.{cut, whole}
use Rattle.timefd_lint_scan.proofs.keys.key.key_of.Goals as goal

pub returns-in-Some : goal.returns-in-Some
returns-in-Some c =
    cut c.args.word.now c.in-Some.name c.in-Some.language (seen c.answer_of.result)
    c.in-Some.ensures.cases c.answer_of.ensures

pub returns-in-None : goal.returns-in-None
returns-in-None c = whole c.args.word.now (Err NoEqualsSign) c.in-None.ensures.cases refl

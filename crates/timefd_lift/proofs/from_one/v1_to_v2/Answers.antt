use Rattle.timefd_language.specs.declared.description_version.DescriptionVersion.TheVariants.{One}
use Rattle.timefd_language.specs.declared.description_version.Language.TheVariants.{Version}
use Rattle.timefd_language.specs.Grammar.{nesting_limit}
use Rattle.timefd_lang_fault.proofs.OwnedLemmas.{owned_fault, owned_memory}
use Rattle.timefd_language.proofs.PlacedLemmas.{owned_placed, owned_spanned}
use Rattle.timefd_parse.proofs.ParseLemmas.{owned_assigned}
use Rattle.timefd_lift.proofs.from_one.v1_to_v2.Goals as goal

pub returns-in-Err-clause-fault : goal.returns-in-Err-clause-fault
returns-in-Err-clause-fault c =
    owned_assigned One nesting_limit c.args.s.now _ _ c.in-Err.ensures.fault c.into_owned.ensures

pub returns-in-Err-clause-spelled : goal.returns-in-Err-clause-spelled
returns-in-Err-clause-spelled c = λ ps s.
    owned_memory _ _ (c.in-Err.ensures.spelled ps s) c.into_owned.ensures

pub returns-in-Err-clause-refused : goal.returns-in-Err-clause-refused
returns-in-Err-clause-refused c = λ f h.
    owned_fault f _ _ (c.in-Err.ensures.refused f h) c.into_owned.ensures

pub returns-in-Err-clause-position : goal.returns-in-Err-clause-position
returns-in-Err-clause-position c =
    owned_placed c.args.s.now _ _ c.in-Err.ensures.position c.into_owned.ensures

pub returns-in-Err-clause-span : goal.returns-in-Err-clause-span
returns-in-Err-clause-span c =
    owned_spanned (Version One) c.args.s.now _ _ c.in-Err.ensures.span c.into_owned.ensures

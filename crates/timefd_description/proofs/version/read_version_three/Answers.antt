use Rattle.std.proofs.Common.{subst}
use Rattle.timefd_language.specs.declared.description_version.DescriptionVersion.TheVariants.{Three}
use Rattle.timefd_parse.specs.Answers.{IsOutput}
use Rattle.timefd_language.specs.declared.description_version.Language.TheVariants.{Version}
use Rattle.timefd_description.proofs.ParsedLemmas.{accepted}
use Rattle.timefd_description.proofs.version.read_version_three.Goals as goal

pub returns-in-Ok-Description : goal.returns-in-Ok-Description
returns-in-Ok-Description c =
    let found = c.in-Ok-Description.ensures.found in
    accepted (Version Three) c.args.limit c.args.text.now found.0 c.in-Ok-Description.description found.1
    (subst (IsOutput Three found.0) c.in-Ok-Description.field-0-is found.2)

use Rattle.std.proofs.Common.{subst}
use Rattle.timefd_parse.specs.Language.{FaultIn}
use Rattle.timefd_description.proofs.formatting.format_text_within.Goals as goal

pub returns-in-Version-clause-refused : goal.returns-in-Version-clause-refused
returns-in-Version-clause-refused c = λ f has.
    c.format_version.ensures.refused f
    (subst (λ l. FaultIn l c.args.limit c.args.text.now f) c.in-Version.is has)

pub returns-in-Strftime-clause-refused : goal.returns-in-Strftime-clause-refused
returns-in-Strftime-clause-refused c = λ f has.
    c.format_strftime.ensures.refused f
    (subst (λ l. FaultIn l c.args.limit c.args.text.now f) c.in-Strftime.is has)

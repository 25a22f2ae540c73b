use Rattle.std.proofs.Common.{subst}
use Rattle.timefd_parse.specs.Language.{FaultIn, SpellsIn}
use Rattle.timefd_description.proofs.description.Description.parse_within.Goals as goal

pub returns-in-Ok-clause-refused : goal.returns-in-Ok-clause-refused
returns-in-Ok-clause-refused c = λ f has.
    c.in-Ok.ensures.refused f (subst (λ l. FaultIn l c.args.limit c.args.text.now f) c.in-Version.is has)

pub returns-in-Err-clause-spelled : goal.returns-in-Err-clause-spelled
returns-in-Err-clause-spelled c = λ list spells.
    c.in-Err.ensures.spelled list
    (subst (λ l. SpellsIn l c.args.limit c.args.text.now list) c.in-Version.is spells)

pub returns-in-Err-clause-refused : goal.returns-in-Err-clause-refused
returns-in-Err-clause-refused c = λ f has.
    c.in-Err.ensures.refused f (subst (λ l. FaultIn l c.args.limit c.args.text.now f) c.in-Version.is has)

pub returns-in-Ok-read_strftime-clause-refused : goal.returns-in-Ok-read_strftime-clause-refused
returns-in-Ok-read_strftime-clause-refused c = λ f has.
    c.in-Ok-read_strftime.ensures.refused f
    (subst (λ l. FaultIn l c.args.limit c.args.text.now f) c.in-Strftime.is has)

pub returns-in-Err-read_strftime-clause-spelled : goal.returns-in-Err-read_strftime-clause-spelled
returns-in-Err-read_strftime-clause-spelled c = λ list spells.
    c.in-Err-read_strftime.ensures.spelled list
    (subst (λ l. SpellsIn l c.args.limit c.args.text.now list) c.in-Strftime.is spells)

pub returns-in-Err-read_strftime-clause-refused : goal.returns-in-Err-read_strftime-clause-refused
returns-in-Err-read_strftime-clause-refused c = λ f has.
    c.in-Err-read_strftime.ensures.refused f
    (subst (λ l. FaultIn l c.args.limit c.args.text.now f) c.in-Strftime.is has)

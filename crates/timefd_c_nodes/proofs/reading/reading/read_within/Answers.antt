use Rattle.std.proofs.Common.{◌∙◌, sym, ap, subst}
use Rattle.timefd_language.specs.declared.description_version.Language.TheVariants.{Version}
use Rattle.timefd_parse.specs.Language.{FaultIn}
use Rattle.timefd_c_nodes.specs.Reading.Reports.{IsRead}
use Rattle.timefd_c_nodes.proofs.reading.reading.read_within.Goals as goal

pub returns-in-Three-clause-refused : goal.returns-in-Three-clause-refused
returns-in-Three-clause-refused c = λ f has.
    c.read_version_three.ensures.refused f
    (subst (λ l. FaultIn l c.args.limit c.args.text.now f)
    (c.in-Version.is ∙ ap Version c.in-Three.is) has)

pub returns-in-Strftime-clause-refused : goal.returns-in-Strftime-clause-refused
returns-in-Strftime-clause-refused c = λ f has.
    c.read_strftime.ensures.reads.refused f
    (subst (λ l. FaultIn l c.args.limit c.args.text.now f) c.in-Strftime.is has)

pub returns-in_default : goal.returns-in_default
returns-in_default c =
    let is = subst (λ l. IsRead l c.args.limit c.args.text.now c.args.nodes.now c.read_version.new.nodes
    c.args.literals.now c.read_version.new.literals c.read_version.result) (sym c.in-Version.is)
    c.read_version.ensures.reads in
    record {
      found = is.found;
      fault = is.fault;
      spelled = is.spelled;
      refused = is.refused;
      empty = is.empty;
      memory = λ none. c.read_version.ensures.memory;
    }

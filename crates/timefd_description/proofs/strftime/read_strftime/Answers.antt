use Rattle.std.proofs.Common.{◌∙◌, ap, sym}
use Rattle.std.proofs.lemmas.Bool.{true≢false}
use Rattle.timefd_parse.specs.Tree.{pack}
use Rattle.timefd_language.specs.Grammar.{nesting_limit}
use Rattle.timefd_language.specs.declared.description_version.Language.TheVariants.{Strftime}
use Rattle.timefd_description.proofs.ParsedLemmas.{accepted, no_items, no_memory, not_read}
use Rattle.timefd_description.proofs.strftime.read_strftime.Goals as goal

pub returns-in-Ok-finished : goal.returns-in-Ok-finished
returns-in-Ok-finished c =
    let m = c.in-Ok.ensures.pieces in
    accepted Strftime nesting_limit c.args.text.now m.0 c.in-Ok-finished.description m.1
    (c.in-Ok-finished.ensures.ok ∙ ap pack m.2)

pub returns-in-Err-finished : goal.returns-in-Err-finished
returns-in-Err-finished c =
    let m = c.in-Ok.ensures.pieces in
    no_memory Strftime nesting_limit c.args.text.now m.0 c.in-Err-finished.error m.1
    (λ none. true≢false (sym (c.in-Err-finished.ensures.empty (m.2 ∙ no_items c.args.text.now m.0 m.1 none))))

pub returns-in-Err : goal.returns-in-Err
returns-in-Err c =
    not_read Strftime nesting_limit c.args.text.now c.strftime_error.result c.strftime_error.ensures.fault
    c.strftime_error.ensures.spelled c.strftime_error.ensures.refused c.in-Err.ensures.some

use Rattle.std.proofs.Common.{◌∙◌, ap, sym}
use Rattle.std.proofs.lemmas.Bool.{true≢false}
use Rattle.timefd_parse.specs.Tree.{pack}
use Rattle.timefd_parse.proofs.ParseLemmas.{items_spelled, none_read}
use Rattle.timefd_language.specs.declared.description_version.Language.TheVariants.{Version}
use Rattle.timefd_description.proofs.ParsedLemmas.{accepted, no_memory, not_read}
use Rattle.timefd_description.proofs.version.read_items.Goals as goal

pub returns-in-Ok-finished : goal.returns-in-Ok-finished
returns-in-Ok-finished c =
    let m = c.in-Ok.ensures.pieces in
    accepted (Version c.args.version) c.args.limit c.args.text.now m.0 c.in-Ok-finished.description
    (items_spelled _ _ _ _ _ m.1) (c.in-Ok-finished.ensures.ok ∙ ap pack m.2)

pub returns-in-Err-finished : goal.returns-in-Err-finished
returns-in-Err-finished c =
    let m = c.in-Ok.ensures.pieces in
    no_memory (Version c.args.version) c.args.limit c.args.text.now m.0 c.in-Err-finished.error
    (items_spelled _ _ _ _ _ m.1)
    (λ none. true≢false (sym (c.in-Err-finished.ensures.empty (m.2 ∙ none_read _ _ _ _ _ m.1 none))))

pub returns-in-Err : goal.returns-in-Err
returns-in-Err c =
    not_read (Version c.args.version) c.args.limit c.args.text.now c.error_of.result c.error_of.ensures.fault
    c.error_of.ensures.spelled c.error_of.ensures.refused c.in-Err.ensures.some

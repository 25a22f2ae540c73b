use Rattle.std.proofs.Common.{subst}
use Rattle.timefd_parse.specs.Tree.{compound, trees}
use Rattle.timefd_lang_node_list.specs.Item.Meaning.{item_trees}
use Rattle.timefd_items.specs.Description.{description_tree}
use Rattle.timefd_parse.specs.Answers.{IsOutput}
use Rattle.timefd_language.specs.declared.description_version.Language.TheVariants as languages
use Rattle.timefd_parse.specs.Language.{FaultIn}
use Rattle.timefd_date_moment.specs.Fields.Reads.{fields_of}
use Rattle.timefd_description.proofs.ReadTextLemmas.{description_read, fault_kept, fault_reported, items_read, memory_reported, no_fault}
use Rattle.timefd_description.specs.ReadAnswers.{fields_in}
use Rattle.timefd_description.proofs.reading.by_version.Goals as goal

pub returns-in-Ok-Items-clause-spelled : goal.returns-in-Ok-Items-clause-spelled
returns-in-Ok-Items-clause-spelled c = λ list spelled.
    items_read c.args.text.now list c.read_by_items.result c.args.version c.in-Ok-Items.items
    c.deref.result.now c.deref.ensures.value
    (subst (IsOutput c.args.version list) c.in-Ok-Items.field-0-is
    (c.in-Ok-Items.ensures.spelled list spelled)) c.read_by_items.ensures

pub returns-in-Ok-Items-clause-refused : goal.returns-in-Ok-Items-clause-refused
returns-in-Ok-Items-clause-refused c = λ f has. absurd (c.in-Ok-Items.ensures.refused f has)

pub returns-in-Ok-Items-clause-fault : goal.returns-in-Ok-Items-clause-fault
returns-in-Ok-Items-clause-fault c =
    no_fault (FaultIn (languages.Version c.args.version) c.args.limit c.args.description.now)
    (fields_of (compound (trees (item_trees c.deref.result.now))) c.args.text.now)
    c.read_by_items.result c.read_by_items.ensures

pub returns-in-Ok-Description-clause-spelled : goal.returns-in-Ok-Description-clause-spelled
returns-in-Ok-Description-clause-spelled c = λ list spelled.
    description_read c.args.text.now list c.read_by_description.result c.args.version
    c.in-Ok-Description.description
    (subst (IsOutput c.args.version list) c.in-Ok-Description.field-0-is
    (c.in-Ok-Description.ensures.spelled list spelled)) c.read_by_description.ensures

pub returns-in-Ok-Description-clause-refused : goal.returns-in-Ok-Description-clause-refused
returns-in-Ok-Description-clause-refused c = λ f has.
    absurd (c.in-Ok-Description.ensures.refused f has)

pub returns-in-Ok-Description-clause-fault : goal.returns-in-Ok-Description-clause-fault
returns-in-Ok-Description-clause-fault c =
    no_fault (FaultIn (languages.Version c.args.version) c.args.limit c.args.description.now)
    (fields_of (description_tree c.in-Ok-Description.description) c.args.text.now)
    c.read_by_description.result c.read_by_description.ensures

pub returns-in-Err-clause-spelled : goal.returns-in-Err-clause-spelled
returns-in-Err-clause-spelled c = λ list spelled.
    memory_reported (fields_in list c.args.text.now) c.in-Err.error c.of_parse_error.result
    c.of_parse_error.ensures (c.in-Err.ensures.spelled list spelled)

pub returns-in-Err-clause-refused : goal.returns-in-Err-clause-refused
returns-in-Err-clause-refused c = λ f has.
    fault_reported f c.in-Err.error c.of_parse_error.result c.of_parse_error.ensures
    (c.in-Err.ensures.refused f has)

pub returns-in-Err-clause-fault : goal.returns-in-Err-clause-fault
returns-in-Err-clause-fault c =
    fault_kept (FaultIn (languages.Version c.args.version) c.args.limit c.args.description.now)
    c.in-Err.error c.of_parse_error.result c.of_parse_error.ensures c.in-Err.ensures.fault

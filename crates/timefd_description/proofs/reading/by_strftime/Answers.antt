use Rattle.timefd_parse.specs.Tree.{compound, trees}
use Rattle.timefd_lang_node_list.specs.Item.Meaning.{item_trees}
use Rattle.timefd_language.specs.Grammar.{nesting_limit}
use Rattle.timefd_parse.specs.Language.{FaultIn}
use Rattle.timefd_date_moment.specs.Fields.Reads.{fields_of}
use Rattle.timefd_description.proofs.ReadTextLemmas.{fault_kept, fault_reported, memory_reported, no_fault, strftime_read}
use Rattle.timefd_description.specs.ReadAnswers.{fields_in}
use Rattle.timefd_language.specs.declared.description_version.Language.TheVariants as languages
use Rattle.timefd_description.proofs.reading.by_strftime.Goals as goal

pub returns-in-Ok-clause-spelled : goal.returns-in-Ok-clause-spelled
returns-in-Ok-clause-spelled c = λ list spelled.
    strftime_read c.args.text.now list c.read_by_items.result c.in-Ok.items.items c.deref.result.now
    c.deref.ensures.value (c.in-Ok.ensures.spelled list spelled) c.read_by_items.ensures

pub returns-in-Ok-clause-refused : goal.returns-in-Ok-clause-refused
returns-in-Ok-clause-refused c = λ f has. absurd (c.in-Ok.ensures.refused f has)

pub returns-in-Ok-clause-fault : goal.returns-in-Ok-clause-fault
returns-in-Ok-clause-fault c =
    no_fault (FaultIn languages.Strftime nesting_limit c.args.description.now)
    (fields_of (compound (trees (item_trees c.deref.result.now))) c.args.text.now)
    c.read_by_items.result c.read_by_items.ensures

pub returns-in-Err-clause-spelled : goal.returns-in-Err-clause-spelled
returns-in-Err-clause-spelled c = λ list spelled.
    memory_reported (fields_in list c.args.text.now) c.unread_error.result c.of_parse_error.result
    c.of_parse_error.ensures (c.unread_error.ensures.spelled list spelled)

pub returns-in-Err-clause-refused : goal.returns-in-Err-clause-refused
returns-in-Err-clause-refused c = λ f has.
    fault_reported f c.unread_error.result c.of_parse_error.result c.of_parse_error.ensures
    (c.unread_error.ensures.refused f has)

pub returns-in-Err-clause-fault : goal.returns-in-Err-clause-fault
returns-in-Err-clause-fault c =
    fault_kept (FaultIn languages.Strftime nesting_limit c.args.description.now) c.unread_error.result
    c.of_parse_error.result c.of_parse_error.ensures c.unread_error.ensures.fault

use Rattle.std.proofs.Common.{◌∙◌, ap, arith, sym, take}
use Rattle.std.specs.HashMap.{get}
use Rattle.std.specs.Prelude.{nat_eq}
use Rattle.timefd_lint_scan.specs.Aliases.{original_of}
use Rattle.timefd_lint_scan.proofs.AliasesLemmas.{absent, after_last, passed_over, unbegun}
use Rattle.timefd_lint_scan.proofs.aliases.original_of.Goals as goal

pub returns-in_default : goal.returns-in_default
returns-in_default c =
    sym (absent c.args.source.now c.args.name.now c.args.position c.args.aliases.list.now
    (get nat_eq c.args.aliases.notes.now.lasts) (sym c.last_of.ensures ∙ c.in_default.is) c.requires.noted.lasts)

pub returns-then-index-last : goal.returns-then-index-last
returns-then-index-last c =
    c.first_named.ensures
    ∙ (ap (original_of c.args.source.now c.args.name.now c.args.position)
    (c.only_first.ensures ∙ ap (take 1) c.aliases_from-rest.ensures)
    ∙ (after_last c.args.source.now c.args.name.now c.args.position c.first_open-index.result c.args.aliases.list.now
    c.in-Some.last (get nat_eq c.args.aliases.notes.now.lasts) (sym c.last_of.ensures ∙ c.in-Some.is) c.requires.noted.lasts
    (omega (arith, c.if-index-last.true))
    ∙ passed_over c.args.source.now c.args.name.now c.args.position c.first_open-index.result c.args.aliases.list.now
    c.first_open-index.ensures))

pub returns-then-not-may_begin : goal.returns-then-not-may_begin
returns-then-not-may_begin c =
    sym (unbegun c.args.source.now c.args.name.now c.args.position c.first_open-index.result c.args.aliases.list.now
    c.args.aliases.notes.now.begins.items c.requires.noted.begun (c.may_begin.ensures.below c.if-not-may_begin.true)
    (c.may_begin.ensures.late c.if-not-may_begin.true))
    ∙ passed_over c.args.source.now c.args.name.now c.args.position c.first_open-index.result c.args.aliases.list.now
    c.first_open-index.ensures

pub returns : goal.returns
returns c =
    c.first_named-2.ensures
    ∙ (ap (original_of c.args.source.now c.args.name.now c.args.position) c.aliases_from-rest.ensures
    ∙ passed_over c.args.source.now c.args.name.now c.args.position c.first_open-index.result c.args.aliases.list.now
    c.first_open-index.ensures)

use Rattle.std.proofs.Common.{◌==◌, not, Ok, ◌++◌, sym, ap, ◌∙◌, subst, append-nil}
use Rattle.timefd_lang_component.specs.Tree.{component}
use Rattle.timefd_items.specs.Builder.{built}
use Rattle.timefd_language.specs.Verdict.{optional_verdict, first_verdict}
use Rattle.timefd_parse.specs.HeadVerdicts.{IsVerdict}
use Rattle.timefd_parse.specs.Judged.{Judged, packed}
use Rattle.timefd_parse.proofs.HeadVerdictLemmas.{misplaced_nested, none_nested, well_placed}
use Rattle.timefd_language.specs.Bytes.{is_version_three}
use Rattle.timefd_parse.specs.Spans.{SpansRefusal}
use Rattle.timefd_parse.proofs.bracket.verdict.verdict.Goals as goal

pub returns-in-Some-clause-tree : goal.returns-in-Some-clause-tree
returns-in-Some-clause-tree g c = λ position h parts base is nested e are.
    misplaced_nested (is_version_three c.args.version) c.args.span.start position h c.args.head.now.nests parts
    c.args.head.now.verdict c.placing_fault.result _ is (c.placing_fault.ensures.fault parts nested)
    c.in-Some.is

pub returns-in-Component-clause-tree : goal.returns-in-Component-clause-tree
returns-in-Component-clause-tree g c = λ position h parts base is nested e are.
    let v = subst (IsVerdict (is_version_three c.args.version) c.args.span.start h c.args.head.now.nests)
    c.in-Component.is is in
    let placed = c.placing_fault.ensures.fault parts nested in
    let none = none_nested c.args.span.start c.args.head.now.nests parts c.placing_fault.result v.0
    placed c.in_default.is in (
      component c.in-Component.component,
      well_placed (is_version_three c.args.version) c.args.span.start position h c.args.head.now.nests parts
          (λ parts position. Ok (component c.in-Component.component)) c.placing_fault.result v.2 placed
          c.in_default.is,
      c.component_piece.ensures _ _ _ v.1
          (λ on. are on ∙ ap (λ ps. base ++ packed ps) none ∙ append-nil base),
    )

pub returns-in-Optional-clause-tree : goal.returns-in-Optional-clause-tree
returns-in-Optional-clause-tree g c = λ position h parts base is nested e are.
    let v = subst (IsVerdict (is_version_three c.args.version) c.args.span.start h c.args.head.now.nests)
    c.in-Optional.is is in
    subst (Judged c.args.span.start (is_version_three c.args.version) (not (g.row.BUILDS == 0)) base (built c.optional.new.builder)
    c.optional.result)
    (sym (well_placed (is_version_three c.args.version) c.args.span.start position h c.args.head.now.nests parts
    (optional_verdict (is_version_three c.args.version) h) c.placing_fault.result v.2
    (c.placing_fault.ensures.fault parts nested) c.in_default.is))
    (c.optional.ensures.tree position h parts base v.0 v.1 nested e are)

pub returns-in-First-clause-tree : goal.returns-in-First-clause-tree
returns-in-First-clause-tree g c = λ position h parts base is nested e are.
    let v = subst (IsVerdict (is_version_three c.args.version) c.args.span.start h c.args.head.now.nests)
    c.in-First.is is in
    subst (Judged c.args.span.start (is_version_three c.args.version) (not (g.row.BUILDS == 0)) base (built c.first.new.builder) c.first.result)
    (sym (well_placed (is_version_three c.args.version) c.args.span.start position h c.args.head.now.nests parts
    (first_verdict (is_version_three c.args.version) h) c.placing_fault.result v.1
    (c.placing_fault.ensures.fault parts nested) c.in_default.is))
    (c.first.ensures.tree position h parts base v.0 nested e are)

pub returns-in-Refused-clause-span : goal.returns-in-Refused-clause-span
returns-in-Refused-clause-span g c = λ text stands refusal.
    subst (SpansRefusal (is_version_three c.args.version) text) c.in-Refused.is refusal

pub returns-in-Some-clause-span : goal.returns-in-Some-clause-span
returns-in-Some-clause-span g c = λ text stands refusal. c.in-Some.ensures.span (is_version_three c.args.version) text stands

pub returns-in-Optional-clause-span : goal.returns-in-Optional-clause-span
returns-in-Optional-clause-span g c = λ text stands refusal. c.optional.ensures.span text stands

pub returns-in-First-clause-span : goal.returns-in-First-clause-span
returns-in-First-clause-span g c = λ text stands refusal. c.first.ensures.span text stands

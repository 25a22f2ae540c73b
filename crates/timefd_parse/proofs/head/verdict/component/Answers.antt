use Rattle.timefd_language.specs.Bytes.{is_version_three}
use Rattle.std.proofs.Common.{IfSome, refl, subst}
use Rattle.timefd_language.specs.Head.{placed}
use Rattle.timefd_language.specs.Spans.{SpansVersion}
use Rattle.timefd_parse.proofs.SpanLemmas.{have_keys, name_spans}
use Rattle.timefd_parse.proofs.HeadVerdictLemmas.{component_bad, component_missing, component_refused, component_found, positions_shown}
use Rattle.timefd_language.proofs.ModernPieces.{name_modern}
use Rattle.timefd_parse.proofs.head.verdict.component.Goals as goal

pub returns-in-Some-clause-tree : goal.returns-in-Some-clause-tree
returns-in-Some-clause-tree c = λ total h shows named. component_bad _ total _ _ h _ shows named _
    c.in-Some.is

pub returns-in_default-component_of-clause-tree : goal.returns-in_default-component_of-clause-tree
returns-in_default-component_of-clause-tree c =
    λ total h shows named. component_missing _ total _ _ h _ shows named _ _ c.in_default.is
    c.in_default-component_of.ensures

pub returns-in-Some-combination_fault-clause-tree : goal.returns-in-Some-combination_fault-clause-tree
returns-in-Some-combination_fault-clause-tree c = λ total h shows named.
    component_refused _ total _ _ h _ shows named _ _ c.in_default.is c.in-Some-component_of.ensures
    _ c.in-Some-combination_fault.is
    (c.combination_fault.ensures.fault total (placed h)
    (positions_shown _ total _ _ h _ shows named c.in_default.is))

pub returns-in-None-clause-tree : goal.returns-in-None-clause-tree
returns-in-None-clause-tree c = λ total h shows named.
    component_found _ total _ _ h _ shows named _ c.in_default.is c.in-Some-component_of.ensures _
    c.in-None.is
    (c.combination_fault.ensures.fault total (placed h)
    (positions_shown _ total _ _ h _ shows named c.in_default.is))

pub returns-in-None-clause-modern : goal.returns-in-None-clause-modern
returns-in-None-clause-modern c = name_modern c.args.name c.args.modifiers.now.settings
    c.in-Some-component_of.component c.in-Some-component_of.ensures

pub returns-in-Some-clause-span : goal.returns-in-Some-clause-span
returns-in-Some-clause-span c = λ text rest h begins faulty.
    subst (λ o. IfSome o (SpansVersion (is_version_three c.args.version) text)) c.in-Some.is faulty

pub returns-in_default-component_of-clause-span : goal.returns-in_default-component_of-clause-span
returns-in_default-component_of-clause-span c = λ text rest h begins faulty.
    name_spans _ text _ _ rest h begins _ refl refl refl (λ front. tt)

pub returns-in-Some-combination_fault-clause-span : goal.returns-in-Some-combination_fault-clause-span
returns-in-Some-combination_fault-clause-span c = λ text rest h begins faulty.
    subst (λ o. IfSome o (SpansVersion (is_version_three c.args.version) text)) c.in-Some-combination_fault.is
    (c.combination_fault.ensures.span text (placed h)
    (λ exact. begins.shows.checks.positions c.in_default.is exact)
    (have_keys _ text _ _ rest h begins))

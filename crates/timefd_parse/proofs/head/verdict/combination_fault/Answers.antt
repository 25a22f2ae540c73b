use Rattle.timefd_language.specs.Bytes.{is_version_three}
use Rattle.std.proofs.Common.{◌∙◌, ap, get_or, map, refl, sym, arith}
use Rattle.std.proofs.lemmas.List.{drop_all, drop_more}
use Rattle.timefd_language.specs.Lookup.{refusal_for}
use Rattle.timefd_language.specs.Verdict.{combined}
use Rattle.timefd_parse.proofs.CheckLemmas.{shows_none}
use Rattle.timefd_parse.proofs.HeadVerdictLemmas.{lax_refused, exactly, refused_here, refused_later, no_refusal}
use Rattle.timefd_parse.proofs.SpanLemmas.{refused_spans}
use Rattle.timefd_parse.proofs.head.verdict.combination_fault.Goals as goal

pub returns-then-not-is_strict-clause-fault : goal.returns-then-not-is_strict-clause-fault
returns-then-not-is_strict-clause-fault c = λ total ps shows. lax_refused total _ _ ps (sym c.if-not-is_strict.ensures)

pub refusals-init : goal.refusals-init
refusals-init c = λ total ps shows. ap (λ r. combined r ps) (sym c.refusals-refusal-items.ensures)

pub returns-in-Some-clause-fault : goal.returns-in-Some-clause-fault
returns-in-Some-clause-fault c = λ total ps shows.
    refused_here total _ ps _ _ _ _ _ _ (shows (sym c.if-not-is_strict.ensures))
    (sym c.of.ensures ∙ c.in-Some.is) c.spelling-key.ensures
    (exactly _ _ ps (sym c.if-not-is_strict.ensures) ∙
    c.refusals.invariant total ps (shows (sym c.if-not-is_strict.ensures))
    ∙ ap (λ l. combined (map refusal_for l) ps)
    (drop_more c.refusals-refusal-items.result.now c.refusals.refusal-index no_refusal
    c.refusals-test.true))

pub refusals-preserved : goal.refusals-preserved
refusals-preserved c = λ total ps shows.
    refused_later total _ ps (get_or c.refusals-refusal-items.result.now c.refusals.refusal-index
    no_refusal) _ _ shows (sym c.of.ensures ∙ c.in_default.is)
    (c.refusals.invariant total ps shows
    ∙ ap (λ l. combined (map refusal_for l) ps)
    (drop_more c.refusals-refusal-items.result.now c.refusals.refusal-index no_refusal
    c.refusals-test.true))

pub returns-clause-fault : goal.returns-clause-fault
returns-clause-fault c = λ total ps shows.
    shows_none total _ _ refl
    (exactly _ _ ps (sym c.if-not-is_strict.ensures) ∙
    c.refusals.invariant total ps (shows (sym c.if-not-is_strict.ensures))
    ∙ ap (λ l. combined (map refusal_for l) ps)
    (drop_all c.refusals.refusal-index c.refusals-refusal-items.result.now
    (omega (arith, c.refusals-test.false))))

pub returns-in-Some-clause-span : goal.returns-in-Some-clause-span
returns-in-Some-clause-span c = λ text ps shows have.
    refused_spans (is_version_three c.args.version) text _ ps _ _ _ _ _ (shows (sym c.if-not-is_strict.ensures))
    c.of.ensures c.in-Some.is c.spelling-key.ensures have refl refl refl (λ front. tt)

use Rattle.std.proofs.Common.{◌∙◌, refl, sym, arith}
use Rattle.std.proofs.lemmas.Bool.{true≢false}
use Rattle.timefd_items.specs.Builder.{built}
use Rattle.timefd_lang_fault.specs.Faults.{fault}
use Rattle.timefd_lang_fault.specs.Words.{first_item, expected_alternative}
use Rattle.timefd_parse.proofs.BuildingLemmas.{is_off, is_on}
use Rattle.timefd_parse.proofs.VerdictLemmas.{first_lax, first_empty, first_made, parts_none}
use Rattle.timefd_language.specs.Bytes.{is_version_three}
use Rattle.timefd_parse.proofs.SpanLemmas.{byte_spans}
use Rattle.timefd_parse.proofs.bracket.verdict.first.Goals as goal

pub returns-then-not-is_strict-clause-tree : goal.returns-then-not-is_strict-clause-tree
returns-then-not-is_strict-clause-tree g c = λ position h parts base good shows e are. (
  fault first_item 0,
  first_lax _ position h parts good
      (sym c.if-not-is_strict.ensures),
  record { kind = refl; position = omega arith },
)

pub returns-then-nested-eq0-clause-tree : goal.returns-then-nested-eq0-clause-tree
returns-then-nested-eq0-clause-tree g c = λ position h parts base good shows e are. (
  fault expected_alternative position,
  first_empty _ position h parts good (sym c.if-not-is_strict.ensures)
      (parts_none c.args.span.start c.args.nested parts shows c.if-nested-eq0.true),
  record { kind = refl; position = e },
)

pub first-requires : goal.first-requires
first-requires g c = c.requires (is_on g.row.BUILDS c.if-not-this.false)

pub returns-clause-tree : goal.returns-clause-tree
returns-clause-tree g c = λ position h parts base good shows e are.
    first_made (is_version_three c.args.version) _ c.args.span.start position c.args.nested h parts
    base (built c.args.builder.now) (built c.first.new.self) good shows
    c.if-nested-eq0.false (sym c.if-not-is_strict.ensures) are (λ on. c.in_ok-first.ensures.made)

pub returns-then-not-this-clause-tree : goal.returns-then-not-this-clause-tree
returns-then-not-this-clause-tree g c = λ position h parts base good shows e are.
    first_made (is_version_three c.args.version) _ c.args.span.start position c.args.nested h parts
    base (built c.args.builder.now) (built c.args.builder.now) good shows
    c.if-nested-eq0.false (sym c.if-not-is_strict.ensures) are
    (λ on. absurd (true≢false (sym on ∙ is_off g.row.BUILDS c.if-not-this.true)))

pub returns-then-not-is_strict-clause-span : goal.returns-then-not-is_strict-clause-span
returns-then-not-is_strict-clause-span g c = λ text stands.
    byte_spans (is_version_three c.args.version) text _ _ stands.start refl refl refl (λ front. tt)

pub returns-then-nested-eq0-clause-span : goal.returns-then-nested-eq0-clause-span
returns-then-nested-eq0-clause-span g c = λ text stands.
    byte_spans (is_version_three c.args.version) text _ _ stands.end refl refl refl (λ front. tt)

use Rattle.std.proofs.Common.{◌∙◌, refl, sym, arith}
use Rattle.std.proofs.lemmas.Bool.{true≢false}
use Rattle.timefd_items.specs.Builder.{built}
use Rattle.timefd_lang_fault.specs.Faults.{fault}
use Rattle.timefd_lang_fault.specs.Words.{expected_nested, optional_item}
use Rattle.timefd_parse.proofs.BuildingLemmas.{is_off, is_on}
use Rattle.timefd_parse.proofs.VerdictLemmas.{parts_none, parts_one, parts_many, optional_none, optional_many, optional_lax, optional_made}
use Rattle.timefd_language.specs.Bytes.{is_version_three}
use Rattle.timefd_parse.proofs.SpanLemmas.{byte_spans}
use Rattle.timefd_parse.proofs.bracket.verdict.optional.Goals as goal

pub returns-then-nested-eq0-clause-tree : goal.returns-then-nested-eq0-clause-tree
returns-then-nested-eq0-clause-tree g c = λ position h parts base good same shows e are. (
  fault expected_nested position,
  optional_none _ position h parts good
      (parts_none c.args.span.start c.args.nested parts shows c.if-nested-eq0.true),
  record { kind = refl; position = e },
)

pub returns-then-nested-gt1-clause-tree : goal.returns-then-nested-gt1-clause-tree
returns-then-nested-gt1-clause-tree g c = λ position h parts base good same shows e are.
    let many = parts_many c.args.span.start c.args.nested parts shows
    (omega (arith, c.if-nested-gt1.true)) in (
      many.0,
      optional_many _ position h parts many.0 good
          many.1,
      record { kind = many.2; position = many.3 },
    )

pub returns-then-not-is_strict-clause-tree : goal.returns-then-not-is_strict-clause-tree
returns-then-not-is_strict-clause-tree g c = λ position h parts base good same shows e are.
    let one = parts_one c.args.span.start c.args.nested parts shows
    (omega (arith, c.if-nested-eq0.false, c.if-nested-gt1.false)) in (
      fault optional_item 0,
      optional_lax _ position h one.0 parts
          good (sym c.if-not-is_strict.ensures) one.1,
      record { kind = refl; position = omega arith },
    )

pub optional-requires : goal.optional-requires
optional-requires g c =
    omega (arith, c.if-nested-eq0.false, c.requires (is_on g.row.BUILDS c.if-not-this.false))

pub returns-clause-tree : goal.returns-clause-tree
returns-clause-tree g c = λ position h parts base good same shows e are.
    optional_made (is_version_three c.args.version) _ c.args.span.start position c.args.nested c.args.formatted h parts
    base (built c.args.builder.now) (built c.optional.new.self) good same shows
    (omega (arith, c.if-nested-eq0.false, c.if-nested-gt1.false)) (sym c.if-not-is_strict.ensures) are
    (λ on. c.in_ok-optional.ensures.made)

pub returns-then-not-this-clause-tree : goal.returns-then-not-this-clause-tree
returns-then-not-this-clause-tree g c = λ position h parts base good same shows e are.
    optional_made (is_version_three c.args.version) _ c.args.span.start position c.args.nested c.args.formatted h parts
    base (built c.args.builder.now) (built c.args.builder.now) good same shows
    (omega (arith, c.if-nested-eq0.false, c.if-nested-gt1.false)) (sym c.if-not-is_strict.ensures) are
    (λ on. absurd (true≢false (sym on ∙ is_off g.row.BUILDS c.if-not-this.true)))

pub returns-then-nested-eq0-clause-span : goal.returns-then-nested-eq0-clause-span
returns-then-nested-eq0-clause-span g c = λ text stands.
    byte_spans (is_version_three c.args.version) text _ _ stands.end refl refl refl (λ front. tt)

pub returns-then-nested-gt1-clause-span : goal.returns-then-nested-gt1-clause-span
returns-then-nested-gt1-clause-span g c = λ text stands.
    byte_spans (is_version_three c.args.version) text _ _ (stands.first (omega (arith, c.if-nested-gt1.true)))
    refl refl refl (λ front. tt)

pub returns-then-not-is_strict-clause-span : goal.returns-then-not-is_strict-clause-span
returns-then-not-is_strict-clause-span g c = λ text stands.
    byte_spans (is_version_three c.args.version) text _ _ stands.start refl refl refl (λ front. tt)

use Rattle.std.proofs.Common.{Bool, ap, sym, arith, ◌∙◌}
use Rattle.timefd_language.specs.Bytes as spec
use Rattle.timefd_language.proofs.Words.{compared, not_same, same_lowered, same_at_once}
use Rattle.timefd_language.specs.Bytes.{is_version_three}
use Rattle.timefd_language.proofs.same.same.Goals as goal

pub returns-then-word-text : goal.returns-then-word-text
returns-then-word-text c =
    not_same (is_version_three c.args.version) c.args.word.now c.args.text.now (λ e. omega arith)

pub returns-then-equal : goal.returns-then-equal
returns-then-equal c = sym (same_at_once (is_version_three c.args.version) c.args.word.now c.args.text.now
    (compared _ _ _ _ _ c.equal.ensures c.as_bytes.ensures.value c.as_bytes-2.ensures.value ∙
    c.if-equal.true))

pub returns-then-is_strict : goal.returns-then-is_strict
returns-then-is_strict c =
    sym (ap (λ (s : Bool). spec.same s c.args.word.now c.args.text.now) (sym c.if-is_strict.ensures) ∙
    compared _ _ _ _ _ c.equal.ensures c.as_bytes.ensures.value c.as_bytes-2.ensures.value ∙
    c.if-equal.false)

pub returns : goal.returns
returns c =
    same_lowered c.eq_ignore_ascii_case.result c.args.word.now c.args.text.now
    c.eq_ignore_ascii_case.ensures.test
    ∙ ap (λ (s : Bool). spec.same s c.args.word.now c.args.text.now) c.if-is_strict.ensures

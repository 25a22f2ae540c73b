use Rattle.std.proofs.Common.{◌∙◌, arith}
use Rattle.timefd.proofs.LimitLemmas.{too_long, sign, no_sign, signed, unread, read, too_large}
use Rattle.timefd.proofs.kind.limit_named.Goals as goal

pub returns-then-word-gt-LIMIT_DIGITS : goal.returns-then-word-gt-LIMIT_DIGITS
returns-then-word-gt-LIMIT_DIGITS c = too_long _ c.if-word-gt-LIMIT_DIGITS.true

pub returns-then-starts_with : goal.returns-then-starts_with
returns-then-starts_with c =
    let first = c.starts_with.ensures.byte (omega arith) (omega arith) (λ w o found. found) in
    signed c.args.word.now (sign c.args.word.now c.starts_with.result first c.if-starts_with.true)

pub returns-in_err-limit : goal.returns-in_err-limit
returns-in_err-limit c =
    let first = c.starts_with.ensures.byte (omega arith) (omega arith) (λ w o found. found) in
    c.from_residual.ensures
    ∙ unread c.args.word.now c.parse.result
    (no_sign c.args.word.now c.starts_with.result first c.if-starts_with.false)
    c.parse.ensures.value.0 c.in_err-limit.ensures.value

pub returns-then-limit-le-NESTING_LIMIT : goal.returns-then-limit-le-NESTING_LIMIT
returns-then-limit-le-NESTING_LIMIT c =
    let first = c.starts_with.ensures.byte (omega arith) (omega arith) (λ w o found. found) in
    read c.args.word.now c.parse.result c.in_ok-limit.limit
    (no_sign c.args.word.now c.starts_with.result first c.if-starts_with.false)
    c.if-word-gt-LIMIT_DIGITS.false c.parse.ensures.value.0 c.in_ok-limit.ensures.value
    c.if-limit-le-NESTING_LIMIT.true

pub returns-else-limit-le-NESTING_LIMIT : goal.returns-else-limit-le-NESTING_LIMIT
returns-else-limit-le-NESTING_LIMIT c =
    let first = c.starts_with.ensures.byte (omega arith) (omega arith) (λ w o found. found) in
    too_large c.args.word.now c.parse.result c.in_ok-limit.limit
    (no_sign c.args.word.now c.starts_with.result first c.if-starts_with.false)
    c.parse.ensures.value.0 c.in_ok-limit.ensures.value c.if-limit-le-NESTING_LIMIT.false

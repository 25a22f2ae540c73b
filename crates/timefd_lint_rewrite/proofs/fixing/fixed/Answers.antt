use Rattle.std.proofs.Common.{arith, rules, List}
use Rattle.std.specs.Prelude.{string_bytes}
use Rattle.timefd_parse.specs.Tree.{Tree}
use Rattle.timefd_language.specs.Grammar.{nesting_limit}
use Rattle.timefd_lint_rewrite.proofs.ChainLemmas.{accepted_fixed, faultless, limit_left, no_fault}
use Rattle.timefd_lint_rewrite.proofs.fixing.fixed.Goals as goal
use Rattle.timefd_parse.specs.Language.{SpellsIn}

pub returns-clause-fixed : goal.returns-clause-fixed
returns-clause-fixed c =
    accepted_fixed _ _ string_bytes c.args.language c.args.fixes c.steps._step c.args.text.now
    (string_bytes c.steps.now) c.accepted.result (omega (arith, c.steps.auto._step-end))
    c.steps.invariant c.accepted.ensures.same c.accepted.ensures.accepted

pub returns-clause-left : goal.returns-clause-left
returns-clause-left c =
    limit_left _ c.args.language c.args.fixes c.steps._step c.args.text.now
    (string_bytes c.steps.now) c.accepted.result
    (omega (arith, c.steps-test.false, c.steps.auto._step-end))
    c.steps.invariant c.accepted.ensures.fault

pub returns-clause-faultless : goal.returns-clause-faultless
returns-clause-faultless c =
    faultless _ _ string_bytes c.args.language c.accepted.result c.accepted.ensures.accepted

pub returns-in-None-clause-faultless : goal.returns-in-None-clause-faultless
returns-in-None-clause-faultless c =
    let accepted : (list : List Tree)
    × SpellsIn c.args.language nesting_limit (string_bytes c.steps.now) list = search rules in
    λ f assigned. no_fault _ _ accepted.0 f accepted.1 assigned

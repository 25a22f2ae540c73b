use Rattle.timefd_lint_sources.proofs.RewritingLemmas.SourceLemmas.{argument_said, digit_said}
use Rattle.timefd_lint_sources.proofs.rewriting.source.renumber.Goals as goal

pub returns-in_ok-push-in-Digit-clause-renumbers : goal.returns-in_ok-push-in-Digit-clause-renumbers
returns-in_ok-push-in-Digit-clause-renumbers c =
    digit_said c.args.source.now c.args.description.now c.args.from c.in-Digit.at c.in-Some.digit c.args.digit
    c.args.bytes.now.items c.copy.new.bytes.items c.push.new.self.items c.requires.stands c.requires.after
    c.in-Some.is c.in-Digit.is c.in_ok-copy-in-Digit.ensures c.in_ok-push-in-Digit.ensures.items

pub returns-in_ok-push_argument-in-Unsaid-clause-renumbers :
    goal.returns-in_ok-push_argument-in-Unsaid-clause-renumbers
returns-in_ok-push_argument-in-Unsaid-clause-renumbers c =
    argument_said c.args.source.now c.args.description.now c.args.from c.in-Some.digit c.args.digit
    c.args.bytes.now.items c.copy-in-Unsaid.new.bytes.items c.push_argument.new.bytes.items c.requires.stands
    c.requires.after c.in-Some.is c.in-Unsaid.is c.in_ok-copy-in-Unsaid.ensures
    c.in_ok-push_argument-in-Unsaid.ensures

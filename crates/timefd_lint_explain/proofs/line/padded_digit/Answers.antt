use Rattle.std.proofs.Common.{◌∙◌, ap, sym}
use Rattle.timefd_lint_explain.proofs.LineLemmas.{of_digit, spaced}
use Rattle.timefd_lint_explain.proofs.line.padded_digit.Goals as goal

pub returns-in-0 : goal.returns-in-0
returns-in-0 c = sym (ap spaced c.in-0.is ∙ of_digit.0)

pub returns-in-1 : goal.returns-in-1
returns-in-1 c = sym (ap spaced c.in-1.is ∙ of_digit.1)

pub returns-in-2 : goal.returns-in-2
returns-in-2 c = sym (ap spaced c.in-2.is ∙ of_digit.2)

pub returns-in-3 : goal.returns-in-3
returns-in-3 c = sym (ap spaced c.in-3.is ∙ of_digit.3)

pub returns-in-4 : goal.returns-in-4
returns-in-4 c = sym (ap spaced c.in-4.is ∙ of_digit.4)

pub returns-in-5 : goal.returns-in-5
returns-in-5 c = sym (ap spaced c.in-5.is ∙ of_digit.5)

pub returns-in-6 : goal.returns-in-6
returns-in-6 c = sym (ap spaced c.in-6.is ∙ of_digit.6)

pub returns-in-7 : goal.returns-in-7
returns-in-7 c = sym (ap spaced c.in-7.is ∙ of_digit.7)

pub returns-in-8 : goal.returns-in-8
returns-in-8 c = sym (ap spaced c.in-8.is ∙ of_digit.8)

pub returns-in-9 : goal.returns-in-9
returns-in-9 c = sym (ap spaced c.in-9.is ∙ of_digit.9)

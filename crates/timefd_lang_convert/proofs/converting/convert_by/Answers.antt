use Rattle.std.proofs.Common.{subst}
use Rattle.timefd_lang_convert.specs.Conversions.{language_of}
use Rattle.timefd_lang_convert.proofs.ConvertLemmas.{one_to_three}
use Rattle.timefd_language.specs.Grammar.{nesting_limit}
use Rattle.timefd_parse.specs.Language.{FaultIn}
use Rattle.timefd_lang_convert.proofs.converting.convert_by.Goals as goal

pub returns-in-OneToThree-clause-described : goal.returns-in-OneToThree-clause-described
returns-in-OneToThree-clause-described c =
    one_to_three c.args.conversion c.v1_to_v3.result c.args.text.now c.in-OneToThree.is
    c.v1_to_v3.ensures.spelled

pub returns-in-OneToTwo-clause-refused : goal.returns-in-OneToTwo-clause-refused
returns-in-OneToTwo-clause-refused c = λ f has. c.v1_to_v2_borrowed.ensures.refused f
    (subst (λ by. FaultIn (language_of by) nesting_limit c.args.text.now f) c.in-OneToTwo.is has)

pub returns-in-OneToThree-clause-refused : goal.returns-in-OneToThree-clause-refused
returns-in-OneToThree-clause-refused c = λ f has. c.v1_to_v3.ensures.refused f
    (subst (λ by. FaultIn (language_of by) nesting_limit c.args.text.now f) c.in-OneToThree.is has)

pub returns-in-TwoToThree-clause-refused : goal.returns-in-TwoToThree-clause-refused
returns-in-TwoToThree-clause-refused c = λ f has. c.v2_to_v3.ensures.refused f
    (subst (λ by. FaultIn (language_of by) nesting_limit c.args.text.now f) c.in-TwoToThree.is has)

pub returns-in-ThreeToThree-clause-refused : goal.returns-in-ThreeToThree-clause-refused
returns-in-ThreeToThree-clause-refused c = λ f has. c.normalize_v3.ensures.refused f
    (subst (λ by. FaultIn (language_of by) nesting_limit c.args.text.now f) c.in-ThreeToThree.is has)

pub returns-in-StrftimeToThree-clause-refused : goal.returns-in-StrftimeToThree-clause-refused
returns-in-StrftimeToThree-clause-refused c = λ f has. c.strftime_to_v3.ensures.refused f
    (subst (λ by. FaultIn (language_of by) nesting_limit c.args.text.now f) c.in-StrftimeToThree.is has)

-- One answer in each language.
use Rattle.timefd_language.proofs.LawLemmas.{one_answer_law}
use Rattle.timefd_language.proofs.StrftimeReader.{strftime_one_answer_law}
use Rattle.timefd_language.specs.declared.description_version.Language.TheVariants.{Version, Strftime}
use Rattle.timefd_laws.specs.Answers.{OneAnswerInEach}

pub one_answer_in_each : OneAnswerInEach
one_answer_in_each (Version v) limit text =
    let a = one_answer_law v limit text in
    record {
      some = a.0;
      one_list = a.1.one_list;
      one_fault = a.1.one_fault;
      not_both = a.1.not_both;
    }
one_answer_in_each Strftime limit text =
    let a = strftime_one_answer_law text in
    record {
      some = a.0;
      one_list = a.1.one_list;
      one_fault = a.1.one_fault;
      not_both = a.1.not_both;
    }

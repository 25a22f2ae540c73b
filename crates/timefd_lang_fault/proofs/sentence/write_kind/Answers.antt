use Rattle.std.proofs.Common.{sym, subst}
use Rattle.timefd_lang_fault.specs.RuleKinds.{kind_of}
use Rattle.timefd_lang_fault.specs.Excerpts.{IsExcerpt}
use Rattle.timefd_lang_fault.specs.Parts.{sentence_with}
use Rattle.timefd_lang_fault.proofs.sentence.write_kind.Goals as goal

pub returns-in-InvalidCombination : goal.returns-in-InvalidCombination
returns-in-InvalidCombination c =
    subst (λ k. IsExcerpt (sentence_with (kind_of k) c.args.index.now) c.args.buffer.now
    c.write_combination.new.buffer c.write_combination.result)
    (sym c.in-InvalidCombination.is) c.write_combination.ensures

use Rattle.std.proofs.Common.{◌∙◌, ap, subst}
use Rattle.timefd_lang_fault.specs.Sentences.{sentence_at}
use Rattle.timefd_lang_fault.specs.RuleKinds.{kind_of}
use Rattle.timefd_lang_fault.specs.Excerpts.{IsExcerpt}
use Rattle.timefd_lang_fault.specs.Parts.{sentence_with}
use Rattle.timefd_lang_fault.proofs.PartLemmas.{with_decimal}
use Rattle.timefd_lang_fault.proofs.borrowed_fault.BorrowedFault.write_sentence.Goals as goal

pub returns : goal.returns
returns c =
    let kind = kind_of c.kind.result in
    subst (λ t. IsExcerpt t c.args.buffer.now c.write_kind.new.buffer c.write_kind.result)
    (ap (sentence_with kind) c.format-index.ensures.text
    ∙ with_decimal kind c.args.self.now.start
    ∙ ap (λ k. sentence_at k c.args.self.now.start) c.kind.ensures)
    c.write_kind.ensures

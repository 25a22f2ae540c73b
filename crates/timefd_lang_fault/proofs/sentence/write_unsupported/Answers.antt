use Rattle.std.proofs.Common.{◌≡◌, ◌≢◌, length, rules, subst}
use Rattle.timefd_lang_fault.specs.Excerpts.{IsExcerpt}
use Rattle.timefd_lang_fault.proofs.PartLemmas.{unsupported-none, unsupported-some}
use Rattle.timefd_lang_fault.proofs.sentence.write_unsupported.Goals as goal

pub returns-then-is_empty : goal.returns-then-is_empty
returns-then-is_empty c =
    let none : length c.args.context.now ≡ 0 = search rules in
    subst (λ t. IsExcerpt t c.args.buffer.now c.write_all.new.buffer c.write_all.result)
    (unsupported-none c.args.what.now c.args.context.now c.args.index.now none) c.write_all.ensures

pub returns : goal.returns
returns c =
    let some : length c.args.context.now ≢ 0 = search rules in
    subst (λ t. IsExcerpt t c.args.buffer.now c.write_all-2.new.buffer c.write_all-2.result)
    (unsupported-some c.args.what.now c.args.context.now c.args.index.now some)
    c.write_all-2.ensures

use Rattle.std.proofs.Common.{arith}
use Rattle.timefd_lang_fault.proofs.ExcerptLemmas.{kept_short, more_written}
use Rattle.timefd_lang_fault.proofs.excerpt.Excerpt.and.Goals as goal

pub returns-then-self : goal.returns-then-self
returns-then-self c = λ whole before is.
    kept_short whole c.args.text.now before c.args.buffer.now c.args.self c.if-self.true is

pub returns : goal.returns
returns c = λ whole before is.
    let w = c.write_at-more.ensures in
    more_written whole c.args.text.now before c.args.buffer.now c.write_at-more.new.buffer
    c.args.self c.min-at.result c.write_at-more.result c.if-self.false
    (λ room. omega (arith, c.min-at.ensures, room)) w.front w.room w.whole w.most is

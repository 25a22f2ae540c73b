use Rattle.std.specs.Prelude.{string_bytes}
use Rattle.timefd_lint_rewrite.specs.Cures.{mark_for, word_for}
use Rattle.timefd_lint_rewrite.proofs.CureLemmas.{found_is, mark_cured, nothing_cured, word_cured}
use Rattle.timefd_lint_rewrite.proofs.cure.cured.Goals as goal

pub returns-in-Some : goal.returns-in-Some
returns-in-Some c =
    mark_cured _ _ string_bytes c.args.language c.args.fixes c.args.text.now
    c.args.diagnostic.now c.in-Some.mark.now c.edited.result
    (found_is (mark_for c.args.language c.args.fixes c.args.diagnostic.now) c.mark_for.result _
    c.mark_for.ensures c.in-Some.is)
    c.requires c.edited.ensures

pub returns-in-Some-word_instead : goal.returns-in-Some-word_instead
returns-in-Some-word_instead c =
    word_cured _ _ string_bytes c.args.language c.args.fixes c.args.text.now
    c.args.diagnostic.now c.in-Some-word_instead.word.now c.replaced.result
    (found_is (mark_for c.args.language c.args.fixes c.args.diagnostic.now) c.mark_for.result _
    c.mark_for.ensures c.in-None.is)
    (found_is (word_for c.args.fixes c.args.diagnostic.now) c.word_instead.result _
    c.word_instead.ensures c.in-Some-word_instead.is)
    c.replaced.ensures

pub returns-in-None-word_instead : goal.returns-in-None-word_instead
returns-in-None-word_instead c =
    nothing_cured c.args.language c.args.fixes c.args.text.now c.args.diagnostic.now
    (found_is (mark_for c.args.language c.args.fixes c.args.diagnostic.now) c.mark_for.result _
    c.mark_for.ensures c.in-None.is)
    (found_is (word_for c.args.fixes c.args.diagnostic.now) c.word_instead.result _
    c.word_instead.ensures c.in-None-word_instead.is)

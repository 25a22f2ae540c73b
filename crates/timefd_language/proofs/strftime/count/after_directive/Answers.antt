use Rattle.std.proofs.Common.{Some, None, get_or, subst, arith, refl}
use Rattle.timefd_lang_component.specs.Tree.{Text}
use Rattle.timefd_language.specs.Directives.LetterMeaning.{IsLetter}
use Rattle.timefd_language.proofs.DirectiveLemmas.DirectiveLemmas.{none_left, directive_leads_to, directive_unknown, directive_cut_short}
use Rattle.timefd_language.proofs.strftime.count.after_directive.Goals as goal

pub returns-in_default : goal.returns-in_default
returns-in_default c =
    directive_cut_short _ _ _ _ c.cut_flag-padding.ensures.parts
    (none_left _ (omega (arith, c.in_default.len_below, c.as_bytes.ensures.len)))
    c.cut_short.ensures.kind c.cut_short.ensures.position c.cut_short.ensures.len
    c.cut_short.ensures.wanted

pub returns-in-Some : goal.returns-in-Some
returns-in-Some c =
    let letter : IsLetter (get_or c.cut_flag-padding.result.1.now 0 0) (Some c.in-Some.field-0) =
    subst (λ (t : Text). IsLetter (get_or t 0 0) (Some c.in-Some.field-0)) c.as_bytes.ensures.value
    c.in-Some.ensures.letter in
    directive_leads_to _ _ _ _ _ _ c.cut_flag-padding.ensures.parts c.tail.ensures.rest letter
    c.tail.ensures.utf8

pub returns-in-None : goal.returns-in-None
returns-in-None c =
    let none : IsLetter (get_or c.cut_flag-padding.result.1.now 0 0) None =
    subst (λ (t : Text). IsLetter (get_or t 0 0) None) c.as_bytes.ensures.value
    c.in-None.ensures.letter in
    directive_unknown _ _ _ _ c.cut_flag-padding.ensures.parts
    (omega (arith, c.in-len1-up.len_at_least, c.as_bytes.ensures.len)) none c.unknown.ensures.kind
    refl c.first_len.ensures.len c.first_len.ensures.within c.unknown.ensures.wanted

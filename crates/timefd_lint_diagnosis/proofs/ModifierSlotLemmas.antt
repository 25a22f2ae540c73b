-- If a closed bracket is refused for a word of a modifier, it is known what the word should have
-- been.
use Rattle.std.proofs.Common.{ℕ, ◌≡◌, ◌+◌, [], ◌++◌, take, length, refl, sym, ap, ◌∙◌, subst, arith, append_assoc, length-append}
use Rattle.std.proofs.Math.Seq.{take-append_seam}
use Rattle.timefd_parse.specs.Tree.{Text}
use Rattle.timefd_language.specs.Bytes.{is_version_three}
use Rattle.timefd_language.specs.Grammar.{nested_text, parts_from}
use Rattle.timefd_language.specs.Head.{head_text}
use Rattle.timefd_language.specs.Slots.{IsSlotIn}
use Rattle.timefd_language.proofs.ModifierFaults.{GoodFault, HoldsOf, KnownFault, Reported, verdict_reported}
use Rattle.timefd_language.proofs.SlotLemmas.{ends_after}
use Rattle.timefd_lint_diagnosis.specs.Laws.{HasModifierSlot}

-- what precedes an index, if it is in a head
front_at : (before front rest after : Text) (index : ℕ) → index ≡ length front
    → take (length before + index) ((before ++ (front ++ rest)) ++ after) ≡ before ++ front
front_at before front rest after index e =
    let count : length before + index ≡ length (before ++ front) =
    omega (arith, e, length-append before front) in
    let whole : (before ++ (front ++ rest)) ++ after ≡ (before ++ front) ++ (rest ++ after) =
    ap (λ t. t ++ after) (sym (append_assoc before front rest))
    ∙ append_assoc (before ++ front) rest after in
    ap (λ n. take n ((before ++ (front ++ rest)) ++ after)) count
    ∙ ap (λ t. take (length (before ++ front)) t) whole
    ∙ take-append_seam (before ++ front) (rest ++ after)

pub modifier_slot : HasModifierSlot
modifier_slot v h ns white before rest word index is e =
    let strict = is_version_three v in
    let r : Reported strict h (KnownFault strict) word index =
    subst (HoldsOf (GoodFault strict h)) e
    (verdict_reported strict h (parts_from (length (head_text h)) ns)
    (length (head_text h ++ nested_text ns ++ white)) is) in
    let s = (r.is [] tt).1 in (
      s.0,
      subst (λ t. IsSlotIn strict t word s.0)
          (sym (ap (λ t. take (length before + index) ((before ++ t) ++ rest)) r.whole
          ∙ front_at before r.front r.rest rest index r.index))
          (s.1.0, s.1.1, ends_after before r.front s.1.0 s.1.1 s.1.2, s.1.3),
    )

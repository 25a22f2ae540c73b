-- What people are shown with a status.
use Rattle.std.proofs.Common.{ℕ, ◌≡◌, ◌≤◌, nat_eq, Bool, true, false, if◌then◌else◌, Option, arith, codes, inl, inr, refl, subst}
use Rattle.timefd_lang_component.specs.Tree.{Text}
use Rattle.timefd_format.specs.declared.report.MessageFate.{MessageFate}
use Rattle.timefd_format.specs.declared.report.MessageFate.TheVariants.{Seen, Failed}
use Rattle.timefd_format.specs.Reports.{ReachesPeople, line_of}
use Rattle.timefd_format.specs.Statuses.{IsEndBy, IsEndStatus, IsNoMemory, IsOneOfSix, IsShown, IsStatus}
use Rattle.timefd_format.specs.Tallies.{status}
use Rattle.timefd_format.specs.declared.end.RunOutcome.{RunOutcome}
use Rattle.timefd_format.specs.declared.end.RunOutcome.TheVariants.{Refused, Done}

shows : (sentence : Text) (before after : Option Text) (has_failed : Bool) (reported : MessageFate)
    → ReachesPeople false (line_of sentence) before after has_failed reported
    → IsShown sentence before after has_failed
shows sentence before after has_failed Seen reaches = inl reaches
shows sentence before after has_failed Failed reaches = inr reaches

pub is_shown : (status : ℕ) (sentence : Text) (before after : Option Text) (has_failed : Bool) (reported : MessageFate)
    → ReachesPeople false (line_of sentence) before after has_failed reported
    → IsStatus status sentence before after has_failed status
is_shown status sentence before after has_failed reported reaches =
    inl (refl, shows sentence before after has_failed reported reaches)

-- Memory for the message ran out, and that is reported.
pub is_unshown : (expected : ℕ) (sentence : Text) (before between after : Option Text) (has_failed : Bool) (status : ℕ)
    → between ≡ before → IsNoMemory between after has_failed status
    → IsStatus expected sentence before after has_failed status
is_unshown expected sentence before between after has_failed status same none =
    inr (subst (λ b. IsNoMemory b after has_failed status) same none)

pub in_words : (expected : ℕ) (sentence words : Text) (before after : Option Text) (has_failed : Bool) (status : ℕ)
    → words ≡ sentence → IsStatus expected words before after has_failed status
    → IsStatus expected sentence before after has_failed status
in_words expected sentence words before after has_failed status same is =
    subst (λ s. IsStatus expected s before after has_failed status) same is

-- Each status is one of the six.
pub six_without_memory : (before after : Option Text) (has_failed : Bool) (answer : ℕ)
    → IsNoMemory before after has_failed answer → IsOneOfSix answer
six_without_memory before after has_failed answer is = omega (arith, is.0)

pub six_of : (expected : ℕ) (sentence : Text) (before after : Option Text) (has_failed : Bool) (answer : ℕ)
    → expected ≤ 5 → IsStatus expected sentence before after has_failed answer → IsOneOfSix answer
six_of expected sentence before after has_failed answer few (inl is) = omega (arith, few, is.0)
six_of expected sentence before after has_failed answer few (inr none) =
    six_without_memory before after has_failed answer none

six_by : (is_unread : Bool) (end : ℕ) (before after : Option Text) (has_failed : Bool) (answer : ℕ) → end ≤ 5
    → IsEndBy is_unread end before after has_failed answer → IsOneOfSix answer
six_by true end before after has_failed answer few is =
    six_of 4 (codes "the standard input can't be read") before after has_failed answer (omega (arith)) is
six_by false end before after has_failed answer few is = omega (arith, few, is.0)

few : (has_failed not_text is_refused : Bool)
    → (if has_failed then 4 else if not_text then 5 else if is_refused then 1 else 0) ≤ 5
few true not_text is_refused = omega (arith)
few false true is_refused = omega (arith)
few false false true = omega (arith)
few false false false = omega (arith)

six_ends : (end : RunOutcome) → status end ≤ 5
six_ends Refused = omega (arith)
six_ends (Done warned tally) = few tally.has_failed tally.not_text tally.is_refused

pub six_at_end : (end : RunOutcome) (number : ℕ) (before after : Option Text) (has_failed : Bool) (answer : ℕ)
    → number ≡ status end → IsEndStatus number before after has_failed answer → IsOneOfSix answer
six_at_end end number before after has_failed answer same is =
    six_by (nat_eq number 4) number before after has_failed answer (omega (arith, same, six_ends end)) is

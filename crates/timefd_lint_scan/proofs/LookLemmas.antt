-- What is seen in a source.
use Rattle.std.proofs.Common.{◌≡◌, ◌∙◌, List, ap, flat_map, inl, inr, refl, subst, sym}
use Rattle.timefd_lint_scan.specs.declared.look.Look.{Look}
use Rattle.timefd_lint_scan.specs.declared.marks.LanguageMark.{LanguageMark}
use Rattle.timefd_lint_scan.specs.declared.own_call.OwnCall.{OwnCall}
use Rattle.timefd_lint_scan.specs.declared.piece.PlacedToken.{PlacedToken}
use Rattle.timefd_lint_scan.specs.Bytes.{Text}
use Rattle.timefd_lint_scan.specs.Candidates.{candidates_in, significant}
use Rattle.timefd_lint_scan.specs.DocLooks.{AreDescriptionsOf, IsLook, by_position, short_in}
use Rattle.timefd_lint_scan.specs.Found.{AllStandIn, AreDescribed, AreInOrder}
use Rattle.timefd_lint_scan.specs.Gathered.{AreGathered}
use Rattle.timefd_lint_scan.specs.Looks.{AreUnreadCalls, IsSeenAlone}
use Rattle.timefd_lint_scan.specs.Marks as spec
use Rattle.timefd_lint_scan.proofs.CandidateLemmas.{all_stand}
use Rattle.timefd_lint_scan.proofs.JoinLemmas.{joined_in_order, joined_stand, parts_stand}
use Rattle.timefd_lint_scan.proofs.FoundLemmas.{at_first}
use Rattle.timefd_lint_scan.proofs.GatheredLemmas.{marks_are, words_are}

pub all_seen : (source : Text) (own : List OwnCall) (look : Look) → IsLook source own look → AreDescriptionsOf source own look.descriptions.items
all_seen source own look is = record { look = look; is = is; those = refl }

pub seen_stand : (source : Text) (own : List OwnCall) (look : Look) → IsLook source own look → AllStandIn source look.descriptions.items
seen_stand source own look (inl (none, blank)) =
    subst (AllStandIn source) (sym blank.descriptions) (at_first source)
seen_stand source own look (inr seen) =
    joined_stand source 0 (by_position (flat_map short_in seen.seen) seen.alone.descriptions.items) look.descriptions.items
    (parts_stand source (flat_map short_in seen.seen) seen.alone.descriptions.items
    (all_stand source 0 _ seen.alone.descriptions.items seen.by_itself.1.descriptions)) seen.together.descriptions

pub seen_in_order : (source : Text) (own : List OwnCall) (look : Look) → IsLook source own look → AreInOrder 0 look.descriptions.items
seen_in_order source own look (inl (none, blank)) = subst (AreInOrder 0) (sym blank.descriptions) tt
seen_in_order source own look (inr seen) = joined_in_order source 0 _ look.descriptions.items seen.together.descriptions

-- What is seen among the tokens that are looked at is what is seen in the source.
pub seen : (source bytes others : Text) (own : List OwnCall) (pieces notes given again those : List PlacedToken) (marks handed : List LanguageMark)
    (look : Look) → AreGathered source pieces notes → bytes ≡ source → given ≡ notes
    → marks ≡ spec.marks bytes given → others ≡ source → again ≡ notes
    → look.comments.items ≡ spec.unknown_marks others again → those ≡ pieces → handed ≡ marks
    → AreDescribed source 0 (candidates_in source own those handed) look.descriptions.items
    → AreUnreadCalls source own those look.descriptions.items look.calls.items → IsSeenAlone source own look
seen source bytes others own pieces notes given again those marks handed look are here noted marked there noted_too words same used
    described calls =
    let all_marks : handed ≡ spec.marks source are.all =
    used ∙ (marked ∙ (ap (λ b. spec.marks b given) here
    ∙ (ap (spec.marks source) (noted ∙ are.noted) ∙ marks_are source are.all))) in
    let all_words : look.comments.items ≡ spec.unknown_marks source are.all =
    words ∙ (ap (λ b. spec.unknown_marks b again) there
    ∙ (ap (spec.unknown_marks source) (noted_too ∙ are.noted) ∙ words_are source are.all)) in (
      are.all,
      record {
        tokens = are.tokens;
        descriptions =
            subst (λ m. AreDescribed source 0 (candidates_in source own (significant are.all) m) look.descriptions.items)
            all_marks
            (subst (λ ps. AreDescribed source 0 (candidates_in source own ps handed) look.descriptions.items) (same ∙ are.kept)
            described);
        calls =
            subst (λ ps. AreUnreadCalls source own ps look.descriptions.items look.calls.items) (same ∙ are.kept) calls;
        comments = all_words;
      },
    )

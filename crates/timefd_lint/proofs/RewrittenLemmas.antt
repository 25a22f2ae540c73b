-- What is written back into a source.
use Rattle.std.proofs.Common.{◌≡◌, List, [], subst}
use Rattle.std.specs.Prelude.{IsUtf8}
use Rattle.timefd_parse.specs.Tree.{Text}
use Rattle.timefd_lint_rewrite.specs.declared.counts.Counts.{Counts}
use Rattle.timefd_lint_sources.specs.declared.rewriting.change.Change.{Change}
use Rattle.timefd_lint_sources.specs.declared.rewriting.source.NewSource.{NewSource}
use Rattle.timefd_lint_sources.specs.declared.reported.Finder.{Finder}
use Rattle.timefd_lint_sources.specs.Rewriting.Values.{IsFoundRewritten}
use Rattle.timefd_lint_sources.specs.declared.rewriting.outcome.Outcome.{Outcome}
use Rattle.timefd_lint.specs.Rewritten.{AreCounted, AreManualNotes, AreNotesOnLimits, IsFileNoted, IsFileRewritten}

pub text_rewritten : (change : Change) (finder : Finder) (bytes source : Text) (m : NewSource) (counts : Counts) (new : Text)
    → source ≡ bytes → IsUtf8 bytes → IsFoundRewritten change finder source m → AreCounted m.outcomes.items counts
    → new ≡ m.bytes.items → IsFileRewritten change finder bytes counts new
text_rewritten change finder bytes source m counts new same utf8 is counted written = record {
  text = λ text. record {
    all = m;
    is = subst (λ (t : Text). IsFoundRewritten change finder t m) same is;
    counted = counted;
    written = written;
  };
  no_text = λ none. absurd (none utf8);
}

pub text_noted : (change : Change) (finder : Finder) (name bytes source : Text) (m : NewSource)
    (outcomes : List Outcome) (manual limits : Text) → source ≡ bytes → IsUtf8 bytes
    → IsFoundRewritten change finder source m → outcomes ≡ m.outcomes.items
    → AreManualNotes change finder name source outcomes manual → AreNotesOnLimits change finder name source limits
    → IsFileNoted change finder name bytes manual limits
text_noted change finder name bytes source m outcomes manual limits same utf8 is met noted limited = record {
  text = λ text. record {
    all = m;
    is = subst (λ (t : Text). IsFoundRewritten change finder t m) same is;
    noted = subst (λ os. AreManualNotes change finder name bytes os manual) met
        (subst (λ (t : Text). AreManualNotes change finder name t outcomes manual) same noted);
    limited = subst (λ (t : Text). AreNotesOnLimits change finder name t limits) same limited;
  };
  no_text = λ none. absurd (none utf8);
}

-- There are no notes on what isn't UTF-8.
pub none_noted : (change : Change) (finder : Finder) (name bytes manual limits : Text) → ¬ IsUtf8 bytes
    → manual ≡ [] → limits ≡ [] → IsFileNoted change finder name bytes manual limits
none_noted change finder name bytes manual limits not no_hand no_limits = record {
  text = λ text. absurd (not text);
  no_text = λ none. (no_hand, no_limits);
}

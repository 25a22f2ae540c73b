-- What becomes of a file that may be rewritten.
use Rattle.std.proofs.Common.{◌≡◌, ◌++◌, true, false, [], Option, Some, None, refl, sym, string_bytes, subst, ◌∙◌}
use Rattle.std.specs.Io.KnownBytes.{Appends}
use Rattle.std.specs.Prelude.{IsFalse}
use Rattle.timefd_parse.specs.Tree.{Text}
use Rattle.timefd_lint_rewrite.specs.Diffs.{WritesDiff}
use Rattle.timefd_lint_rewrite.specs.Rewriting.{AreRewritten}
use Rattle.timefd_lint_rewrite.specs.declared.line_change.LineChange.{LineChange}
use Rattle.timefd_lint.specs.declared.found.FoundInFile.{FoundInFile}
use Rattle.timefd_lint.specs.declared.options.RunOptions.{RunOptions}
use Rattle.timefd_lint.specs.declared.output.Audience.{Audience}
use Rattle.timefd_lint.specs.declared.rewriting.Rewriting.{Rewriting}
use Rattle.timefd_lint.specs.Fates.{IsFoundAs, IsFoundByChange, IsFoundIn, ShowsDiff}
use Rattle.timefd_lint.specs.Limited.{AreNotesFor}
use Rattle.timefd_lint.specs.Outputs.{without_colors}
use Rattle.timefd_lint.specs.Reported.{IsRunOver}
use Rattle.timefd_lint.specs.Rewritten.{IsFileNoted, IsFileRewritten}
use Rattle.timefd_lint.specs.Sources.{IsRunOfSource, finder_of, is_source}

pub in_source : (options : RunOptions) (rewriting : Rewriting) (name old : Text) (before after : Option Text)
    (found : FoundInFile) → is_source options name ≡ true
    → ((rest : Option Text) × IsRunOfSource (finder_of options name) options.reporting name (Some old) rest false
    before after found.tally)
    → IsFileRewritten rewriting.sources (finder_of options name) old found.counts found.bytes.items
    → IsFileNoted rewriting.sources (finder_of options name) name old (string_bytes found.manual)
    (string_bytes found.limits)
    → IsFoundIn options rewriting name old before after (Some found)
in_source options rewriting name old before after found is (rest, reported) new noted =
    subst (λ s. IsFoundAs s options rewriting name old before after (Some found)) (sym is) (rest, reported, new, noted)

pub in_lines : (options : RunOptions) (rewriting : Rewriting) (name old : Text) (before after : Option Text)
    (change : LineChange) (found : FoundInFile) → is_source options name ≡ false → rewriting.lines ≡ Some change
    → ((rest : Option Text) × IsRunOver options.language options.comment options.reporting name (Some old) rest false
    before after found.tally)
    → IsFalse found.tally.failed
    → AreRewritten change options.comment (Some old) (Some []) (Some found.bytes.items) found.counts
    → string_bytes found.manual ≡ [] → AreNotesFor change options.comment name old (string_bytes found.limits)
    → IsFoundIn options rewriting name old before after (Some found)
in_lines options rewriting name old before after change found none is (rest, reported) works new manual limits =
    subst (λ s. IsFoundAs s options rewriting name old before after (Some found)) (sym none)
    (subst (λ l. IsFoundByChange options l name old before after (Some found)) (sym is)
    (rest, reported, works, new, manual, limits))

pub in_nothing : (options : RunOptions) (rewriting : Rewriting) (name old : Text) (before : Option Text)
    → is_source options name ≡ false → rewriting.lines ≡ None
    → IsFoundIn options rewriting name old before before None
in_nothing options rewriting name old before none is =
    subst (λ s. IsFoundAs s options rewriting name old before before None) (sym none)
    (subst (λ l. IsFoundByChange options l name old before before None) (sym is) refl)

-- A diff that is shown without colours.
pub shows : (audience : Audience) (head file old new diff plain text : Text) (before after : Option Text)
    → WritesDiff file old new (Some head) (Some diff) → plain ≡ without_colors audience diff → text ≡ plain
    → Appends before after text → ShowsDiff audience head file old new before after
shows audience head file old new diff plain text before after is without same written =
    (diff, is, subst (λ t. Appends before after t) (same ∙ without) written)

-- A diff that is written after a text.
pub after_head : (file old new head bytes begun diff : Text) → begun ≡ [] ++ bytes → bytes ≡ head
    → WritesDiff file old new (Some begun) (Some diff) → WritesDiff file old new (Some head) (Some diff)
after_head file old new head bytes begun diff is same writes =
    subst (λ t. WritesDiff file old new (Some t) (Some diff)) (is ∙ same) writes

-- One more pattern, or one more file.
use Rattle.std.proofs.Common.{◌≡◌, List, [], ◌∷◌, ◌++◌, length, drop, refl, sym, ap, ◌∙◌}
use Rattle.std.specs.Prelude.{Bool, Option, Some, None}
use Rattle.timefd_lint_files.specs.declared.ignore_file.IgnoreFile.{IgnoreFile}
use Rattle.timefd_lint_files.specs.declared.pattern.Pattern.{Pattern}
use Rattle.timefd_lint_files.specs.Matching.{Text}
use Rattle.timefd_lint_files.specs.declared.rules.PatternVerdict.{PatternVerdict}
use Rattle.timefd_lint_files.specs.Rules.{last_verdict, later, verdict_in}

-- the earliest verdict, a later one, and the last
pub later_twice : (a b c : Option PatternVerdict) → later (later a b) c ≡ later a (later b c)
later_twice a b None = refl
later_twice a b (Some own) = refl

pub from_none : (a : Option PatternVerdict) → later None a ≡ a
from_none None = refl
from_none (Some own) = refl

nothing_before : (front path : Text) → length front ≡ 0 → front ++ path ≡ path
nothing_before [] path none = refl
nothing_before (byte ∷ bytes) path none = absurd cc

-- a file in the folder that a path begins with
pub without_front : (file : IgnoreFile) (patterns : List Pattern) (path below : Text) (is_folder : Bool)
    (verdict : Option PatternVerdict) → length file.front.items ≡ 0 → patterns ≡ file.patterns.items
    → below ≡ drop file.folder_len path → verdict ≡ last_verdict patterns below is_folder
    → verdict ≡ verdict_in file path is_folder
without_front file patterns path below is_folder verdict none same at is =
    is ∙ (ap (λ (ps : List Pattern). last_verdict ps below is_folder) same
    ∙ ap (λ (p : Text). last_verdict file.patterns.items p is_folder)
    (at ∙ sym (nothing_before file.front.items (drop file.folder_len path) none)))

-- a file in another one
pub after_front : (file : IgnoreFile) (patterns : List Pattern) (path below whole read : Text) (is_folder : Bool)
    (verdict : Option PatternVerdict) → patterns ≡ file.patterns.items → below ≡ drop file.folder_len path
    → whole ≡ file.front.items ++ below → read ≡ whole → verdict ≡ last_verdict patterns read is_folder
    → verdict ≡ verdict_in file path is_folder
after_front file patterns path below whole read is_folder verdict same at joined borrowed is =
    is ∙ (ap (λ (ps : List Pattern). last_verdict ps read is_folder) same
    ∙ ap (λ (p : Text). last_verdict file.patterns.items p is_folder)
    (borrowed ∙ (joined ∙ ap (λ (b : Text). file.front.items ++ b) at)))

-- The test of a pattern decides whether it applies.
use Rattle.std.proofs.Common.{◌≡◌, Bool, true, false, refl}
use Rattle.std.specs.Prelude.{not, ◌&&◌, ◌↔◌, IsTrue}
use Rattle.timefd_lint_files.specs.declared.pattern.Pattern.{Pattern}
use Rattle.timefd_lint_files.specs.Matching.{Text, Matches, matches}
use Rattle.timefd_lint_files.specs.Patterns.{Applies, applies}
use Rattle.timefd_lint_files.proofs.MatchingLemmas.{decided}

for_folders : (is_for is_folder test : Bool) (M : Type 0) → IsTrue test ↔ M
    → IsTrue (not (is_for && not is_folder) && test) ↔ ((IsTrue is_for → IsTrue is_folder) × M)
for_folders false is_folder test M is = (λ h. (λ none. absurd cc, is.0 h), λ both. is.1 both.1)
for_folders true true test M is = (λ h. (λ all. refl, is.0 h), λ both. is.1 both.1)
for_folders true false test M is = (λ h. absurd cc, λ both. both.0 refl)

pub as_stated : (answer : Bool) (pattern : Pattern) (path : Text) (is_folder : Bool)
    → answer ≡ applies pattern path is_folder → IsTrue answer ↔ Applies pattern path is_folder
as_stated answer pattern path is_folder is =
    rw is (for_folders pattern.is_for_folders is_folder (matches pattern.tokens.items path)
    (Matches pattern.tokens.items path) (decided pattern.tokens.items path))

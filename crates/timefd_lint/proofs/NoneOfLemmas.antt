-- A word that is none of those that there are.
use Rattle.std.proofs.Common.{◌≡◌, List, [], ◌∷◌, ◌++◌, codes, flat_map, Option, Result, Ok, Err, refl, ap, subst, ◌∙◌}
use Rattle.std.specs.Prelude.{IfOk, string_bytes}
use Rattle.std.specs.List.{join_by}
use Rattle.std.specs.declared.alloc.Global.{Global}
use Rattle.std.specs.declared.string.String.{String}
use denote.Ref.{Bor}
use Rattle.timefd_parse.specs.Tree.{Text}
use Rattle.timefd_lint.specs.NoneOf.{IsNoneOf, sentence}
use Rattle.timefd_lint_diagnosis.specs.Nearest.{IsNearest}
use Rattle.timefd_lint_diagnosis.specs.Words.{texts}

after_each : (sep : Text) (words : List (Bor Text))
    → flat_map (λ (w : Bor Text). sep ++ w.now) words ≡ flat_map (λ (t : Text). sep ++ t) (texts words)
after_each sep [] = refl
after_each sep (w ∷ words) = ap (λ t. (sep ++ w.now) ++ t) (after_each sep words)

joined : (sep : Text) (words : List (Bor Text))
    → join_by (λ (w : Bor Text). w.now) sep words ≡ join_by (λ (t : Text). t) sep (texts words)
joined sep [] = refl
joined sep (w ∷ words) = ap (λ t. w.now ++ t) (after_each sep words)

pub is_none_of : {E : Type 0} (answer : Result (String Global) E) (what name row : Text) (nearest : Option Text)
    (words : List (Bor Text)) → IsNearest (texts words) name nearest
    → row ≡ join_by (λ (w : Bor Text). w.now) (codes ", ") words
    → IfOk answer (λ text. string_bytes text ≡ sentence what name nearest row)
    → IfOk answer (λ text. IsNoneOf what (texts words) name (string_bytes text))
is_none_of (Ok text) what name row nearest words near is said =
    (nearest, near, said ∙ ap (sentence what name nearest) (is ∙ joined (codes ", ") words))
is_none_of (Err e) what name row nearest words near is said = tt

-- It is said of the same words.
pub of_words : {E : Type 0} (answer : Result (String Global) E) (what name : Text) (words all : List Text)
    → words ≡ all → IfOk answer (λ text. IsNoneOf what words name (string_bytes text))
    → IfOk answer (λ text. IsNoneOf what all name (string_bytes text))
of_words (Ok text) what name words all same said =
    subst (λ ws. IsNoneOf what ws name (string_bytes text)) same said
of_words (Err e) what name words all same said = tt

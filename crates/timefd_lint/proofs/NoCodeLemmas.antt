-- The codes in a row.
use Rattle.std.proofs.Common.{◌≡◌, List, [], ◌∷◌, ◌++◌, append_assoc, append-nil, map, sym, ap, ◌∙◌}
use Rattle.std.proofs.lemmas.List.{map-append}
use denote.Ref.{Bor}
use Rattle.timefd_parse.specs.Tree.{Text}
use Rattle.timefd_lint_diagnosis.specs.Words.{texts}

-- Five lists, one after another.
pub in_turn : (v0 v1 v2 v3 v4 v5 : List (Bor Text)) (a b c d e : List Text) → v0 ≡ []
    → texts v1 ≡ texts v0 ++ a → texts v2 ≡ texts v1 ++ b → texts v3 ≡ texts v2 ++ c → texts v4 ≡ texts v3 ++ d
    → texts v5 ≡ texts v4 ++ e → texts v5 ≡ a ++ (b ++ (c ++ (d ++ e)))
in_turn v0 v1 v2 v3 v4 v5 a b c d e e0 e1 e2 e3 e4 e5 =
    e5
    ∙ (ap (λ t. t ++ e) (e4 ∙ (ap (λ t. t ++ d) (e3 ∙ (ap (λ t. t ++ c) (e2 ∙ (ap (λ t. t ++ b)
    (e1 ∙ ap (λ v. texts v ++ a) e0)))))))
    ∙ (append_assoc (a ++ b ++ c) d e ∙ (append_assoc (a ++ b) c (d ++ e) ∙ append_assoc a b (c ++ (d ++ e)))))

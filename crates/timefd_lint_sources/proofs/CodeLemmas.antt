-- The codes in a row.
use Rattle.std.proofs.Common.{◌≡◌, List, [], ◌∷◌, ◌++◌, append_assoc, append-nil, map, sym, ap, ◌∙◌}
use Rattle.std.proofs.lemmas.List.{map-append}
use denote.Ref.{Bor}
use Rattle.timefd_parse.specs.Tree.{Text}
use Rattle.timefd_lint_diagnosis.specs.Words.{texts}

-- One more code after others.
pub one_more : {A : Type 0} (code : A → Text) (old new : List (Bor Text)) (word : Bor Text) (first : A)
    (more rest : List A) (all : List Text) → new ≡ old ++ word ∷ [] → word.now ≡ code first
    → rest ≡ first ∷ more → texts old ++ map code rest ≡ all → texts new ++ map code more ≡ all
one_more code old new word first more rest all is same split so_far =
    ap (λ words. texts words ++ map code more) is
    ∙ (ap (λ words. words ++ map code more) (map-append (λ (w : Bor Text). w.now) old (word ∷ []))
    ∙ (append_assoc (texts old) (word.now ∷ []) (map code more)
    ∙ (ap (λ it. texts old ++ it ∷ map code more) same
    ∙ (ap (λ items. texts old ++ map code items) (sym split) ∙ so_far))))

pub at_last : {A : Type 0} (code : A → Text) (words : List (Bor Text)) (rest : List A) (all : List Text)
    → rest ≡ [] → texts words ++ map code rest ≡ all → texts words ≡ all
at_last code words rest all none so_far =
    sym (append-nil (texts words))
    ∙ (ap (λ more. texts words ++ map code more) (sym none) ∙ so_far)

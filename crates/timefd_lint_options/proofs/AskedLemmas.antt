-- One more word.
use Rattle.std.proofs.Common.{◌≡◌, List, ◌∷◌, sym, ap, ◌∙◌}
use denote.Ref.{Bor}
use Rattle.timefd_parse.specs.Tree.{Text}
use Rattle.timefd_lint_options.specs.declared.asked.ParsedSoFar.{ParsedSoFar}
use Rattle.timefd_lint_options.specs.declared.asked.ArgumentStep.{ArgumentStep}
use Rattle.timefd_lint_options.specs.declared.asked.ArgumentStep.TheVariants.{Next, Done}
use Rattle.timefd_lint_options.specs.Asked.{Answer, one_more, go, asked_from}

pub goes_on : (state next : ParsedSoFar) (word : Bor Text) (after words : List (Bor Text)) (s : ArgumentStep)
    (answer : Answer) → s ≡ one_more state word after → s ≡ Next next → words ≡ word ∷ after
    → asked_from state words ≡ answer → asked_from next after ≡ answer
goes_on state next word after words s answer is more split so_far =
    ap (go (λ t. asked_from t after)) (sym more ∙ is)
    ∙ ap (asked_from state) (sym split) ∙ so_far

pub is_done : (state : ParsedSoFar) (word : Bor Text) (after words : List (Bor Text)) (s : ArgumentStep)
    (answer done : Answer) → s ≡ one_more state word after → s ≡ Done done → words ≡ word ∷ after
    → asked_from state words ≡ answer → done ≡ answer
is_done state word after words s answer done is end split so_far =
    ap (go (λ t. asked_from t after)) (sym end ∙ is)
    ∙ ap (asked_from state) (sym split) ∙ so_far

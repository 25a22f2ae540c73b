-- One more word.
use Rattle.std.proofs.Common.{◌≡◌, List, ◌∷◌, sym, ap, ◌∙◌}
use denote.Ref.{Bor}
use Rattle.timefd_lang_component.specs.Tree.{Text}
use Rattle.timefd_format.specs.declared.asked.AskedSoFar.{AskedSoFar}
use Rattle.timefd_format.specs.declared.asked.AskedStep.{AskedStep}
use Rattle.timefd_format.specs.declared.asked.AskedStep.TheVariants.{Next, Done}
use Rattle.timefd_format.specs.Asked.{Answer, one_more, go, asked_from}

pub goes_on : (state next : AskedSoFar) (word : Bor Text) (after words : List (Bor Text)) (s : AskedStep)
    (answer : Answer) → s ≡ one_more state word after → s ≡ Next next → words ≡ word ∷ after
    → asked_from state words ≡ answer → asked_from next after ≡ answer
goes_on state next word after words s answer is more split so_far =
    ap (go (λ t. asked_from t after)) (sym more ∙ is)
    ∙ ap (asked_from state) (sym split) ∙ so_far

pub is_done : (state : AskedSoFar) (word : Bor Text) (after words : List (Bor Text)) (s : AskedStep)
    (answer done : Answer) → s ≡ one_more state word after → s ≡ Done done → words ≡ word ∷ after
    → asked_from state words ≡ answer → done ≡ answer
is_done state word after words s answer done is end split so_far =
    ap (go (λ t. asked_from t after)) (sym end ∙ is)
    ∙ ap (asked_from state) (sym split) ∙ so_far

-- What is appended to a finding.
use Rattle.std.proofs.Common.{◌≡◌, ◌++◌, ap, ◌∙◌}
use Rattle.timefd_lang_component.specs.Tree.{Text}

-- What is appended next is one piece more.
pub then : (whole before next piece : Text) → next ≡ before ++ piece → before ≡ whole → next ≡ whole ++ piece
then whole before next piece e w = e ∙ ap (λ t. t ++ piece) w

pub then_as : (whole before next piece wanted : Text) → next ≡ before ++ piece → before ≡ whole → piece ≡ wanted
    → next ≡ whole ++ wanted
then_as whole before next piece wanted e w p = e ∙ ap (λ t. t ++ piece) w ∙ ap (λ p. whole ++ p) p

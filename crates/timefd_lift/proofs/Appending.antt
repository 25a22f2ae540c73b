-- What is appended, in other words.
use Rattle.std.proofs.Common.{◌≡◌, ◌∙◌, ◌++◌, Result, OnOk, [], ◌∷◌, ap, subst, append_assoc}
use Rattle.timefd_lang_component.specs.declared.component.Component.{Component}
use Rattle.timefd_lang_component.specs.Tree.{Text}
use Rattle.timefd_language.specs.Bytes.{left, right}
use Rattle.timefd_lang_component.specs.Bracket.Words.{form, count_digits, first_modifier, second_modifier, words}
use Rattle.timefd_lang_component.specs.declared.bracket.defaults.Defaults.{Defaults}
use Rattle.timefd_lift.specs.Written.{component_text, in_brackets}

closed : (old one two three : Text)
    → ((old ++ left ∷ []) ++ (one ++ two ++ three)) ++ right ∷ [] ≡ old ++ in_brackets one two three
closed old one two three =
    append_assoc (old ++ left ∷ []) (one ++ two ++ three) (right ∷ [])
    ∙ append_assoc old (left ∷ []) ((one ++ two ++ three) ++ right ∷ [])

-- the words between brackets are the bracket of the component
pub bracket_appended : {A E : Type 0} (r : Result A E) (old opened filled new : Text) (c : Component)
    → opened ≡ old ++ left ∷ [] → filled ≡ opened ++ words Defaults.Omitted c
    → OnOk r (new ≡ filled ++ right ∷ []) → OnOk r (new ≡ old ++ component_text c)
bracket_appended r old opened filled new c starts holds =
    subst (λ t. OnOk r (new ≡ t)) (ap (λ x. x ++ right ∷ []) (holds ∙ ap (λ x. x ++ words
    Defaults.Omitted c) starts) ∙ closed old (form Defaults.Omitted c) (first_modifier
    Defaults.Omitted c (count_digits c)) (second_modifier Defaults.Omitted c))

-- `==` of components.
use Rattle.std.proofs.Common.{◌≡◌, true, subst}
use Rattle.timefd_lang_component.specs.Equality.{same_component}
use Rattle.timefd_lang_component.specs.ComponentEquality.{component_sound, component_same}
use Rattle.timefd_lang_component.specs.Laws.{ComponentEquality}

pub component_equality_law : ComponentEquality
component_equality_law a b = (
  component_sound a b,
  λ e. subst (λ x. same_component a x ≡ true) e
      (component_same a),
)

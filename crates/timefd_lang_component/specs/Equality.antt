-- Equality of components.
use Rattle.std.specs.Prelude.{Bool}
use Rattle.timefd_lang_component.specs.declared.component.Component.{Component}
use Rattle.timefd_lang_component.specs.contracts.component.ComponentPartialEq.TheImpl as component_eq

-- `==` of components
abbrev pub same_component : Component → Component → Bool
same_component = (component_eq.ghosts).eq

-- What is written for a moment by a tree: THE text that the moment determines, or the first component that
-- shows nothing of it, and why.
use Rattle.std.specs.Prelude.{◌++◌, [], if◌then◌else◌, Result, Ok, Err}
use Rattle.timefd_lang_component.specs.declared.component.Component.{Component}
use Rattle.timefd_lang_component.specs.Modern.{modern}
use Rattle.timefd_lang_component.specs.Tree.{Text, Tree, component, literal, compound, optional, first, Trees, no_trees, more_trees}
use Rattle.timefd_date_moment.specs.declared.moment.Moment.{Moment}
use Rattle.timefd_date_format.specs.declared.field.WrittenField.{WrittenField}
use Rattle.timefd_date_format.specs.declared.field.Lack.{Lack}
use Rattle.timefd_date_format.specs.declared.field.Unshown.{Unshown}
use Rattle.timefd_date_format.specs.Fields.{field, field_text}

abbrev pub text_of : Component → Result WrittenField Lack → Result Text Unshown
text_of c (Ok f) = Ok (field_text f)
text_of c (Err lack) = Err (record { component = c; lack = lack })

-- The text of a component. A deprecated one has the text of the component that replaces it.
abbrev pub shown : Moment → Component → Result Text Unshown
shown m c = text_of (modern c) (field m (modern c))

-- A text, and what follows it.
abbrev pub in_front : Text → Result Text Unshown → Result Text Unshown
in_front a (Ok b) = Ok (a ++ b)
in_front a (Err u) = Err u

-- Of two components that show nothing, the front one is reported.
abbrev pub followed : Result Text Unshown → Result Text Unshown → Result Text Unshown
followed (Ok a) rest = in_front a rest
followed (Err u) rest = Err u

abbrev mutual
  pub written : Moment → Tree → Result Text Unshown
  written m (component c) = shown m c
  written m (literal bytes) = Ok bytes
  written m (compound ts) = written_all m ts
  written m (optional format t) = if format then written m t else Ok []
  written m (first ts) = written_first m ts

  pub written_all : Moment → Trees → Result Text Unshown
  written_all m no_trees = Ok []
  written_all m (more_trees t ts) = followed (written m t) (written_all m ts)

  pub written_first : Moment → Trees → Result Text Unshown
  written_first m no_trees = Ok []
  written_first m (more_trees t ts) = written m t

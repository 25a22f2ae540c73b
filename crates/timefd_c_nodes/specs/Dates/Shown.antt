-- What a date shows by nodes.
use Rattle.std.specs.List.{list_all}
use Rattle.std.specs.Prelude.{◌≡◌, IsUtf8, List, None, Ok, true}
use Rattle.timefd_c_nodes.specs.Formatting.Literals.{is_text}
use Rattle.timefd_c_nodes.specs.Formatting.Nodes.{node_fault, node_trees}
use Rattle.timefd_c_nodes.specs.Formatting.Parts.{role_in}
use Rattle.timefd_c_nodes.specs.declared.node.RawNode.{RawNode}
use Rattle.timefd_lang_component.specs.Tree.{Text, compound, trees}
use Rattle.timefd_date_moment.specs.declared.moment.Moment.{Moment}
use Rattle.timefd_date_moment.specs.declared.fields.fields.Fields.{Fields}
use Rattle.timefd_date_moment.specs.declared.fields.short.Numbers.{Numbers}
use Rattle.timefd_date_moment.specs.Fields.Reads.{fields_of}
use Rattle.timefd_date_moment.specs.Fields.Short.{fields_with}
use Rattle.timefd_date_moment.specs.Reading.Values.{IsMomentOf}

-- The nodes are a description, its literals are UTF-8, and by it the whole date shows these fields.
pub record AreFields (nodes : List RawNode) (literals date : Text) (fields : Fields) : Type 0 where
  pub sound : node_fault literals nodes ≡ None
  pub texts : list_all (λ n. is_text (role_in literals n)) nodes ≡ true
  pub shown : fields_of (compound (trees (node_trees literals nodes))) date ≡ Ok fields

-- the same of numbers
abbrev pub AreShown : List RawNode → Text → Text → Numbers → Type 0
AreShown nodes literals date numbers = AreFields nodes literals date (fields_with numbers)

-- The date is UTF-8, and by the nodes it shows this moment.
pub record IsShown (nodes : List RawNode) (literals date : Text) (m : Moment) : Type 0 where
  pub fields : Fields
  pub utf8 : IsUtf8 date
  pub are : AreFields nodes literals date fields
  pub moment : IsMomentOf fields (Ok m)

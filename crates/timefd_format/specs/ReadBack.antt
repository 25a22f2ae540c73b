-- The moment that a text shows, read by a description.
use Rattle.std.specs.Prelude.{◌≡◌, Bool, true, false, List, map, Option, Some, None, Result, Ok, Err, ⊤}
use denote.Ref.{Bor}
use Rattle.timefd_lang_component.specs.Tree.{Text, Tree, compound, trees}
use Rattle.timefd_lang_node_list.specs.Item.Meaning.{item_trees}
use Rattle.timefd_parse.specs.Description.{description_tree}
use Rattle.timefd_lint_warnings.specs.Found.{output_parts}
use Rattle.timefd_date_moment.specs.declared.moment.Moment.{Moment}
use Rattle.timefd_lang_node_list.specs.declared.leaves.Leaf.{Leaf}
use Rattle.timefd_lang_node_list.specs.LeafMeaning.{leaf_tree}
use Rattle.timefd_parse.specs.declared.parsing.BorrowedOutput.{BorrowedOutput}
use Rattle.timefd_parse.specs.declared.parsing.BorrowedOutput.TheVariants.{Items, Description}
use Rattle.timefd_format.specs.declared.completing.moments.PartialError.{PartialError}
use Rattle.timefd_format.specs.declared.completing.moments.PartialError.TheVariants as partial
use Rattle.timefd_format.specs.Completing.Completed.{IsCompleted}
use Rattle.timefd_format.specs.Completing.Given.{are_given}
use Rattle.timefd_date_moment.specs.declared.fields.fault.ReadError.{ReadError}
use Rattle.timefd_date_moment.specs.declared.fields.fields.Fields.{Fields}
use Rattle.timefd_date_moment.specs.Fields.Reads.{fields_of}
use Rattle.timefd_date_moment.specs.declared.reading.error.ValueError.{ValueError}
use Rattle.timefd_date_moment.specs.declared.reading.error.ValueError.TheVariants as error
use Rattle.timefd_date_moment.specs.declared.reading.part.Part.{Part}
use Rattle.timefd_date_moment.specs.declared.reading.part.Part.TheVariants as part
use Rattle.timefd_date_moment.specs.Reading.Values.{IsMomentOf}
use Rattle.timefd_format.specs.Absent.{absent_day}
use Rattle.timefd_format.specs.declared.absent.AbsentDay.{AbsentDay}
use Rattle.timefd_format.specs.declared.moment.MomentError.{MomentError}
use Rattle.timefd_format.specs.declared.moment.MomentError.TheVariants as fails

-- the tree of a description
abbrev pub tree_of : BorrowedOutput → Tree
tree_of (Items items) = compound (trees (item_trees items.items))
tree_of (Description d) = description_tree d

-- The description is the sequence of these components and literals.
abbrev pub IsMadeOf : BorrowedOutput → List Leaf → Type 0
IsMadeOf o leaves = tree_of o ≡ compound (trees (map leaf_tree leaves))

-- If leaves are given, they are those of the description.
abbrev pub AreLeavesOf : BorrowedOutput → Option (Bor (List Leaf)) → Type 0
AreLeavesOf o None = ⊤
AreLeavesOf o (Some leaves) = IsMadeOf o leaves.now

-- The moment that the text shows gives all that is needed of one.
abbrev pub IsWhole : BorrowedOutput → Text → Moment → Type 0
IsWhole o text m = (f : Fields) × (fields_of (tree_of o) text ≡ Ok f) × IsMomentOf f (Ok m)

-- the description that is borrowed, if there is one
abbrev pub now : Option (Bor BorrowedOutput) → Option BorrowedOutput
now None = None
now (Some o) = Some o.now

-- The parts that were read disagree. If there is no such day, the error says so.
abbrev pub contradiction : Option AbsentDay → Part → MomentError
contradiction (Some day) p = fails.Absent day
contradiction None p = fails.Value (error.Contradiction p)

-- The description to write by shows only what was read of a date, so that this part of one isn't needed.
abbrev pub is_enough : Option BorrowedOutput → Fields → Part → Bool
is_enough (Some o) f (part.Date p) = are_given f (output_parts o)
is_enough (Some o) f (part.Time p) = false
is_enough (Some o) f (part.Offset p) = false
is_enough (Some o) f (part.Instant p) = false
is_enough None f p = false

abbrev pub as_moment : Result Moment PartialError → Result Moment MomentError
as_moment (Ok m) = Ok m
as_moment (Err partial.NoDate) = Err fails.NoDate
as_moment (Err (partial.Value e)) = Err (fails.Value e)

-- The moment agrees with what was read of a date, and has the time of day and the offset that were read.
abbrev pub IsOfPart : Fields → Result Moment MomentError → Type 0
IsOfPart f r = (completed : Result Moment PartialError) × IsCompleted f completed × (r ≡ as_moment completed)

abbrev pub IsOfPartIf : Bool → Fields → Part → Result Moment MomentError → Type 0
IsOfPartIf true f p r = IsOfPart f r
IsOfPartIf false f p r = r ≡ Err (fails.Value (error.Missing p))

-- The moment that was found. Part of a date is enough where the description to write by shows no more.
abbrev pub IsOfFound : Option BorrowedOutput → Fields → Result Moment ValueError → Result Moment MomentError → Type 0
IsOfFound written f (Ok m) r = r ≡ Ok m
IsOfFound written f (Err (error.Missing p)) r = IsOfPartIf (is_enough written f p) f p r
IsOfFound written f (Err (error.Contradiction p)) r = r ≡ Err (contradiction (absent_day f) p)

abbrev pub IsOfRead : Option BorrowedOutput → Fields → Result Moment MomentError → Type 0
IsOfRead written f r = (found : Result Moment ValueError) × IsMomentOf f found × IsOfFound written f found r

abbrev pub IsOfFields : Option BorrowedOutput → Result Fields ReadError → Result Moment MomentError → Type 0
IsOfFields written (Ok f) r = IsOfRead written f r
IsOfFields written (Err u) r = r ≡ Err (fails.Unread u)

-- The moment that the whole text shows by the description, or its first fault. It may be written by the other
-- description, if there is one.
abbrev pub IsReadBack : BorrowedOutput → Option BorrowedOutput → Text → Result Moment MomentError → Type 0
IsReadBack o written text r = IsOfFields written (fields_of (tree_of o) text) r

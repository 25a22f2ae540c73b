-- A moment that was read from its numbers, without fields.
use Rattle.std.proofs.Common.{◌≡◌, ◌∙◌, List, Option, Some, None, Ok, IfSome, refl, map, sym, ap, subst}
use Rattle.timefd_lang_component.specs.Tree.{Text, compound, trees}
use Rattle.timefd_date_moment.specs.declared.moment.Moment.{Moment}
use Rattle.timefd_lang_node_list.specs.declared.leaves.Leaf.{Leaf}
use Rattle.timefd_lang_node_list.specs.LeafMeaning.{leaf_tree}
use Rattle.timefd_parse.specs.declared.parsing.BorrowedOutput.{BorrowedOutput}
use Rattle.timefd_date_moment.specs.Fields.Reads.{fields_of}
use Rattle.timefd_date_moment.specs.Fields.Short.{fields_with}
use Rattle.timefd_date_moment.specs.declared.fields.short.Numbers.{Numbers}
use Rattle.timefd_date_moment.specs.Reading.Values.{IsMomentOf}
use Rattle.timefd_format.specs.ReadBack.{IsMadeOf, IsOfFields, IsReadBack, IsWhole}

pub by_numbers : (o : BorrowedOutput) (leaves : List Leaf) (text : Text) (n : Numbers) (r : Option Moment)
    → IsMadeOf o leaves → fields_of (compound (trees (map leaf_tree leaves))) text ≡ Ok (fields_with n)
    → IfSome r (λ m. IsMomentOf (fields_with n) (Ok m)) → IfSome r (IsWhole o text)
by_numbers o leaves text n (Some m) made read is =
    (fields_with n, ap (λ t. fields_of t text) made ∙ read, is)
by_numbers o leaves text n None made read is = tt

pub whole : (o : BorrowedOutput) (written : Option BorrowedOutput) (text : Text) (m : Moment) → IsWhole o text m
    → IsReadBack o written text (Ok m)
whole o written text m is = subst (λ r. IsOfFields written r (Ok m)) (sym is.1) (Ok m, is.2, refl)

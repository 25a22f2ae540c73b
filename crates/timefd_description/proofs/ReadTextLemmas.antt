-- An answer for what was read is an answer for what the text spells.
use Rattle.std.proofs.Common.{◌≡◌, ◌∙◌, [], ◌∷◌, List, Result, Ok, Err, map, refl, sym, ap, subst}
use Rattle.std.specs.declared.alloc.Global.{Global}
use Rattle.std.specs.declared.vec.Vec.{Vec}
use Rattle.std.specs.Prelude.{length}
use Rattle.std.specs.Result.{IfErr}
use Rattle.timefd_parse.specs.Tree.{Text, Tree, compound, trees, pack}
use Rattle.timefd_lang_fault.specs.declared.borrowed_parse_error.BorrowedParseError.{BorrowedParseError}
use Rattle.timefd_lang_fault.specs.declared.borrowed_parse_error.BorrowedParseError.TheVariants as parses
use Rattle.timefd_lang_fault.specs.BorrowedFaults as borrowed
use Rattle.timefd_lang_fault.specs.Faults.{Fault}
use Rattle.timefd_lang_node_list.specs.declared.item.borrowed_format_item.BorrowedFormatItem.{BorrowedFormatItem}
use Rattle.timefd_lang_node_list.specs.Item.Meaning.{item_tree, item_trees}
use Rattle.timefd_items.specs.Description.{description_tree}
use Rattle.timefd_items.specs.declared.format_description_v3.FormatDescriptionV3.{FormatDescriptionV3}
use Rattle.timefd_language.specs.declared.description_version.DescriptionVersion.{DescriptionVersion}
use Rattle.timefd_language.specs.declared.description_version.DescriptionVersion.TheVariants.{One, Two, Three}
use Rattle.timefd_parse.specs.declared.parsing.BorrowedOutput.TheVariants.{Items, Description}
use Rattle.timefd_parse.specs.Answers.{IsOutput}
use Rattle.timefd_date_moment.specs.declared.fields.fault.ReadError.{ReadError}
use Rattle.timefd_date_moment.specs.declared.fields.fields.Fields.{Fields}
use Rattle.timefd_date_moment.specs.Fields.Reads.{fields_of, followed, read, start, whole}
use Rattle.timefd_description.specs.declared.read_error.ReadTextError.{ReadTextError}
use Rattle.timefd_description.specs.declared.read_error.ReadTextError.TheVariants as fails
use Rattle.timefd_description.specs.ReadAnswers.{AreFieldsAs, HasFaultOf, IsFaulty, IsMemory, fields_in, of_parse_error, read_answer}

-- the one tree of a list reads what the list reads

alone : (r : _) → followed r (λ q. Ok q) ≡ r
alone (Ok q) = refl
alone (Err f) = refl

packed : (list : List Tree) (text : Text) → fields_of (pack list) text ≡ fields_in list text
packed [] text = refl
packed (t ∷ []) text = ap (λ r. whole (length text) r) (sym (alone (read t (start text))))
packed (t ∷ u ∷ ts) text = refl

as_answered : (w : Result Fields ReadError) (r : Result Fields ReadTextError) → r ≡ read_answer w
    → AreFieldsAs w r
as_answered (Ok f) r e = subst (λ x. AreFieldsAs (Ok f) x) (sym e) refl
as_answered (Err u) r e = subst (λ x. AreFieldsAs (Err u) x) (sym e) refl

module _ (text : Text) (list : List Tree) (r : Result Fields ReadTextError) where
  of_items : (items : List BorrowedFormatItem) → item_trees items ≡ list
      → r ≡ read_answer (fields_of (compound (trees (item_trees items))) text)
      → AreFieldsAs (fields_in list text) r
  of_items items is e =
      as_answered (fields_in list text) r (e ∙ ap (λ l. read_answer (fields_in l text)) is)

  pub items_read : (v : DescriptionVersion) (vec : Vec BorrowedFormatItem Global)
      (borrowed : List BorrowedFormatItem) → borrowed ≡ vec.items → IsOutput v list (Items vec)
      → r ≡ read_answer (fields_of (compound (trees (item_trees borrowed))) text)
      → AreFieldsAs (fields_in list text) r
  items_read One vec borrowed e is same = of_items borrowed (ap (λ xs. map item_tree xs) e ∙ is) same
  items_read Two vec borrowed e is same = of_items borrowed (ap (λ xs. map item_tree xs) e ∙ is) same
  items_read Three vec borrowed e is same = absurd is

  pub strftime_read : (items borrowed : List BorrowedFormatItem) → borrowed ≡ items
      → item_trees items ≡ list → r ≡ read_answer (fields_of (compound (trees (item_trees borrowed))) text)
      → AreFieldsAs (fields_in list text) r
  strftime_read items borrowed e is same =
      of_items borrowed (ap (λ xs. map item_tree xs) e ∙ is) same

  pub description_read : (v : DescriptionVersion) (d : FormatDescriptionV3)
      → IsOutput v list (Description d) → r ≡ read_answer (fields_of (description_tree d) text)
      → AreFieldsAs (fields_in list text) r
  description_read One d is same = absurd is
  description_read Two d is same = absurd is
  description_read Three d is same = as_answered (fields_in list text) r
      (same ∙ (ap (λ t. read_answer (fields_of t text)) is ∙ ap (λ w. read_answer w) (packed list text)))

-- an answer about reading names no fault of the description
pub no_fault : (P : Fault → Type 0) (w : Result Fields ReadError) (r : Result Fields ReadTextError)
    → r ≡ read_answer w → IfErr r (HasFaultOf P)
no_fault P (Ok f) r e = subst (λ x. IfErr x (HasFaultOf P)) (sym e) tt
no_fault P (Err u) r e = subst (λ x. IfErr x (HasFaultOf P)) (sym e) tt

-- if memory ran out, whatever was to be read
pub nothing_read : (w : Result Fields ReadError) (e : ReadTextError) → IsMemory e
    → AreFieldsAs w (Err e)
nothing_read (Ok f) (fails.Fault g) wrong = absurd wrong
nothing_read (Ok f) (fails.Unread u) wrong = absurd wrong
nothing_read (Ok f) (fails.Value v) wrong = absurd wrong
nothing_read (Ok f) (fails.Memory e) right = tt
nothing_read (Err w) (fails.Fault g) wrong = absurd wrong
nothing_read (Err w) (fails.Unread u) wrong = absurd wrong
nothing_read (Err w) (fails.Value v) wrong = absurd wrong
nothing_read (Err w) (fails.Memory e) right = tt

-- the answer if the text of the description wasn't read

pub memory_reported : (w : Result Fields ReadError) (e : BorrowedParseError) (t : ReadTextError)
    → t ≡ of_parse_error e → borrowed.IsMemory e → AreFieldsAs w (Err t)
memory_reported w (parses.Invalid f) t same wrong = absurd wrong
memory_reported w (parses.Memory e) t same right =
    nothing_read w t (subst (λ x. IsMemory x) (sym same) tt)

pub fault_reported : (f : Fault) (e : BorrowedParseError) (t : ReadTextError)
    → t ≡ of_parse_error e → borrowed.IsBorrowed f e → IsFaulty f t
fault_reported f (parses.Invalid g) t same is = subst (λ x. IsFaulty f x) (sym same) is
fault_reported f (parses.Memory e) t same wrong = absurd wrong

pub fault_kept : (P : Fault → Type 0) (e : BorrowedParseError) (t : ReadTextError)
    → t ≡ of_parse_error e → borrowed.IsBorrowedOf P e → HasFaultOf P t
fault_kept P (parses.Invalid g) t same is = subst (λ x. HasFaultOf P x) (sym same) is
fault_kept P (parses.Memory e) t same is = subst (λ x. HasFaultOf P x) (sym same) tt

-- Descriptions with `[optional [..]]` and `[first [..] [..]]`, converted. What such an item nests is converted by itself. The
-- item is set aside, with a mark at its position, while the text around it is converted.
use Rattle.std.specs.Prelude.{ℕ, zero, suc, ◌≡◌, ◌==◌, ◌⊎◌, Bool, List, [], ◌∷◌, ◌++◌, codes, decimal, length, Option, None, Some, IsFalse}
use Rattle.std.specs.List.{list_any}
use Rattle.timefd_parse.specs.Tree.{Text, Tree}
use Rattle.timefd_lang_convert.specs.declared.conversion.Conversion.{Conversion}
use Rattle.timefd_lang_convert.specs.declared.conversion.Conversion.TheVariants.{OneToTwo, OneToThree, TwoToThree, ThreeToThree, StrftimeToThree}
use Rattle.timefd_parse.specs.Faults.{Fault}
use Rattle.timefd_language.specs.Bytes.{left, right, is_white, ZeroOrMore}
use Rattle.timefd_language.specs.Grammar.{nesting_limit}
use Rattle.timefd_language.specs.declared.description_version.DescriptionVersion.{DescriptionVersion}
use Rattle.timefd_language.specs.declared.description_version.DescriptionVersion.TheVariants.{Two, Three}
use Rattle.timefd_language.specs.declared.description_version.Language.TheVariants as languages
use Rattle.timefd_lint_rewrite.specs.Layouts.{IsConverted}
use Rattle.timefd_lint_rewrite.specs.declared.layout.Layout.{Layout}
use Rattle.timefd_lint_rewrite.specs.declared.layout.Layout.TheVariants.{Least, Normal, Fixed}
use Rattle.timefd_parse.specs.BracketParts.{BeginsNamed, BeginsNested}
use Rattle.timefd_parse.specs.Language.{SpellsIn}
use Rattle.timefd_lint_sources.specs.Items.{IsAllOpened, IsItemFault}
use Rattle.timefd_lint_sources.specs.declared.rewriting.aside.TheConstants.{ITEM_LIMIT}

-- The mark of an item that is set aside: a control character, which no text has from which an item is set aside, and a
-- number that no other item there has.
abbrev pub mark : ℕ → Text
mark number = 1 ∷ (decimal number ++ codes ";")

abbrev pub has_mark : Text → Bool
has_mark text = list_any (λ b. b == 1) text

-- A text begins with a nested description, and `after` follows. `new` is written for that: the description is converted.
pub record IsNestConverted (v : DescriptionVersion) (layout : Layout) (text inner new after : Text) : Type 0 where
  pub answer : Text
  pub begins : BeginsNested v text inner after
  pub converted : IsConverted layout inner answer
  pub so : new ≡ begins.white ++ (left ∷ (answer ++ right ∷ []))

-- A text goes on with these nested descriptions and `]`, and then the rest. This is written for them.
abbrev pub AreConverted : DescriptionVersion → Layout → List Text → Text → Text → Text → Type 0
AreConverted v layout [] text new rest = (white : Text) × ZeroOrMore is_white white
    × (text ≡ white ++ right ∷ rest) × (new ≡ white ++ right ∷ [])
AreConverted v layout (inner ∷ others) text new rest = (one : Text) × (after : Text) × (more : Text)
    × IsNestConverted v layout text inner one after × AreConverted v layout others after more rest
    × (new ≡ one ++ more)

pub record AreNestsConverted (v : DescriptionVersion) (layout : Layout) (text new rest : Text) : Type 0 where
  pub nested : List Text
  pub converted : AreConverted v layout nested text new rest

-- A text begins with an item, and the rest follows. This is written for the item.
pub record IsItemConverted (v : DescriptionVersion) (layout : Layout) (text new rest : Text) : Type 0 where
  pub name : Text
  pub nested : Text
  pub others : Text
  pub named : BeginsNamed text name nested
  pub converted : AreNestsConverted v layout nested others rest
  pub so : new ≡ left ∷ (name ++ others)

-- An item that `parse` refuses is set aside, and what the text with its mark becomes is known. It becomes this, with the
-- converted item in place of the mark.
pub record IsSetAside (Becomes : Text → Text → Type 0) (number : ℕ) (v : DescriptionVersion) (layout : Layout)
    (text answer : Text) : Type 0 where
  pub fault : Fault
  pub front : Text
  pub item : Text
  pub new : Text
  pub rest : Text
  pub before : Text
  pub after : Text
  pub faulty : IsItemFault v text fault
  pub at : length front ≡ fault.index
  pub whole : text ≡ front ++ item
  pub is : IsItemConverted v layout item new rest
  pub around : Becomes (front ++ (mark number ++ rest)) (before ++ (mark number ++ after))
  pub so : answer ≡ before ++ (new ++ after)

-- what a text becomes from which at most this many items are set aside
abbrev pub IsConvertedWithin : ℕ → DescriptionVersion → Layout → Text → Text → Type 0
IsConvertedWithin zero v layout text answer = IsConverted layout text answer
IsConvertedWithin (suc n) v layout text answer = IsConverted layout text answer
    ⊎ IsSetAside (IsConvertedWithin n v layout) n v layout text answer

-- the version of what a layout converts to
abbrev pub version_after : Conversion → DescriptionVersion
version_after OneToTwo = Two
version_after OneToThree = Three
version_after TwoToThree = Three
version_after ThreeToThree = Three
version_after StrftimeToThree = Three

abbrev pub target_of : Layout → Option DescriptionVersion
target_of (Least conversion) = Some (version_after conversion)
target_of (Normal conversion) = Some (version_after conversion)
target_of (Fixed language fixes) = None

-- The version takes the text where items are taken.
pub record IsTaken (v : DescriptionVersion) (text : Text) : Type 0 where
  pub opened : Text
  pub list : List Tree
  pub all : IsAllOpened (length text) v text opened
  pub spells : SpellsIn (languages.Version v) nesting_limit opened list

-- What a text of this version with items becomes, which the version of the layout takes.
pub record IsConvertedAround (v : DescriptionVersion) (layout : Layout) (text answer : Text) : Type 0 where
  pub target : DescriptionVersion
  pub to : target_of layout ≡ Some target
  pub unmarked : IsFalse (has_mark text)
  pub within : IsConvertedWithin ITEM_LIMIT v layout text answer
  pub taken : IsTaken target answer

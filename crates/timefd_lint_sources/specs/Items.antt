-- Brackets that `parse` refuses in versions 1 and 2, and that other places take: `[optional [..]]`,
-- `[first [..] [..]]`. A description in such a place is checked as it is written: with the optional part,
-- and with the first of its alternatives.
use Rattle.std.specs.Prelude.{ℕ, zero, suc, ◌≡◌, ◌+◌, ◌-◌, ◌⊎◌, Bool, true, false, List, [], ◌∷◌, ◌++◌, codes, length, Option, None, Some, IsUtf8}
use Rattle.std.specs.List.{repeat}
use Rattle.timefd_parse.specs.Tree.{Text}
use Rattle.timefd_parse.specs.Code.{Code}
use Rattle.timefd_parse.specs.Code.TheVariants.{UnclosedBracket, UnknownName, InvalidModifier, MissingName, MissingModifier, InvalidEscape, UnescapedBracket, MissingSpace, MissingDescription, MissingAlternative, NestedTooDeep, SeveralDescriptions, OptionalItem, FirstItem, UnsupportedFlag, UnsupportedLetter, NestedInComponent, DuplicateModifier, RefusedModifier}
use Rattle.timefd_parse.specs.Codes.{code_of}
use Rattle.timefd_parse.specs.Faults.{Fault}
use Rattle.timefd_language.specs.Bytes.{right, is_white, ZeroOrMore}
use Rattle.timefd_language.specs.Grammar.{nesting_limit}
use Rattle.timefd_language.specs.declared.description_version.DescriptionVersion.{DescriptionVersion}
use Rattle.timefd_language.specs.declared.description_version.DescriptionVersion.TheVariants as versions
use Rattle.timefd_parse.specs.BracketParts.{BeginsNamed, BeginsNested}
use Rattle.timefd_language.specs.declared.description_version.Language.TheVariants as languages
use Rattle.timefd_parse.specs.Language.{FaultIn}
use Rattle.timefd_lint_scan.specs.declared.description.SourceDescription.{SourceDescription}
use Rattle.timefd_lint_scan.specs.declared.dialect.FormatLanguage.{FormatLanguage}
use Rattle.timefd_lint_scan.specs.declared.dialect.FormatLanguage.TheVariants.{One, Two, Three, Strftime, Python, C, Gnu, Chrono, Jiff, Ruby, Java, Go, Moment}
use Rattle.timefd_lint_scan.specs.declared.known.Items.{Items}
use Rattle.timefd_lint_scan.specs.declared.known.Items.TheVariants.{Taken, Refused}

-- A text goes on with white bytes and `]`, and then the rest.
abbrev pub IsClosing : Text → Text → Type 0
IsClosing text rest = (white : Text) × ZeroOrMore is_white white × (text ≡ white ++ right ∷ rest)

-- A text goes on with these nested descriptions, and then closes like that.
abbrev pub Closes : DescriptionVersion → List Text → Text → Text → Type 0
Closes v [] text rest = IsClosing text rest
Closes v (inner ∷ others) text rest =
    (after : Text) × BeginsNested v text inner after × Closes v others after rest

pub record HasEnd (v : DescriptionVersion) (text rest : Text) : Type 0 where
  pub others : List Text
  pub closes : Closes v others text rest

-- A text begins with a bracket that has a name and nested descriptions and nothing else. `first` is the
-- first of them, `after` follows its `]`, and `rest` follows the bracket.
pub record IsItem (v : DescriptionVersion) (text first after rest : Text) : Type 0 where
  pub name : Text
  pub nested : Text
  pub named : BeginsNamed text name nested
  pub begins : BeginsNested v nested first after
  pub end : HasEnd v after rest

-- a fault that only `parse` finds: `[optional ..]` or `[first ..]`
abbrev pub is_of_item : Code → Bool
is_of_item UnclosedBracket = false
is_of_item UnknownName = false
is_of_item InvalidModifier = false
is_of_item MissingName = false
is_of_item MissingModifier = false
is_of_item InvalidEscape = false
is_of_item UnescapedBracket = false
is_of_item MissingSpace = false
is_of_item MissingDescription = false
is_of_item MissingAlternative = false
is_of_item NestedTooDeep = false
is_of_item SeveralDescriptions = false
is_of_item OptionalItem = true
is_of_item FirstItem = true
is_of_item UnsupportedFlag = false
is_of_item UnsupportedLetter = false
is_of_item NestedInComponent = false
is_of_item DuplicateModifier = false
is_of_item RefusedModifier = false

abbrev pub spaces : ℕ → Text
spaces n = repeat n (codes " ")

-- An item with spaces instead of everything but its first description, and the rest.
abbrev pub opened : Text → Text → Text → Text → Text
opened text first after rest =
    spaces (length text - length first - length after - 1) ++ (first
    ++ (spaces (length after + 1 - length rest) ++ rest))

-- By the rules the text has this fault, which only `parse` finds.
pub record IsItemFault (v : DescriptionVersion) (text : Text) (fault : Fault) : Type 0 where
  pub faulty : FaultIn (languages.Version v) nesting_limit text fault
  pub of_item : is_of_item (code_of fault.kind) ≡ true

-- The text has such a fault, and becomes this one with that item opened.
pub record IsOpened (v : DescriptionVersion) (text next : Text) : Type 0 where
  pub fault : Fault
  pub front : Text
  pub item : Text
  pub first : Text
  pub after : Text
  pub rest : Text
  pub faulty : IsItemFault v text fault
  pub at : length front ≡ fault.index
  pub whole : text ≡ front ++ item
  pub is : IsItem v item first after rest
  pub so : next ≡ front ++ opened item first after rest

-- What becomes of a text when its items are opened one after another, as long as it has one that only
-- `parse` refuses, and at most this many times.
abbrev pub IsAllOpened : ℕ → DescriptionVersion → Text → Text → Type 0
IsAllOpened zero v text all = all ≡ text
IsAllOpened (suc n) v text all =
    (((next : Text) → IsOpened v text next → ⊥) × (all ≡ text))
    ⊎ ((next : Text) × IsOpened v text next × IsAllOpened n v next all)

-- the version in which a place takes items that `parse` refuses
abbrev pub version_of : FormatLanguage → Option DescriptionVersion
version_of One = Some versions.One
version_of Two = Some versions.Two
version_of Three = None
version_of Strftime = None
version_of Python = None
version_of C = None
version_of Gnu = None
version_of Chrono = None
version_of Jiff = None
version_of Ruby = None
version_of Java = None
version_of Go = None
version_of Moment = None

abbrev pub taking : Items → FormatLanguage → Option DescriptionVersion
taking Taken dialect = version_of dialect
taking Refused dialect = None

-- The text has an item that `parse` refuses and that the place takes.
abbrev pub HoldsItem : Option DescriptionVersion → Text → Type 0
HoldsItem None text = ⊥
HoldsItem (Some v) text = (next : Text) × IsOpened v text next

-- The text that is checked for a description: its own, with its items opened if its place takes items.
abbrev pub IsJudgedText : Option DescriptionVersion → Text → Text → Type 0
IsJudgedText None text judged = judged ≡ text
IsJudgedText (Some v) text judged =
    ((¬ IsUtf8 text) × (judged ≡ text)) ⊎ (IsUtf8 text × IsAllOpened (length text) v text judged)

-- What is judged is the description, but with the text that is checked for it.
pub record IsJudgedAs (d judged : SourceDescription) : Type 0 where
  pub piece : judged.piece ≡ d.piece
  pub kind : judged.kind ≡ d.kind
  pub dialect : judged.dialect ≡ d.dialect
  pub items : judged.items ≡ d.items
  pub version : judged.version ≡ d.version
  pub call : judged.call ≡ d.call
  pub positions : judged.unescaped.positions.items ≡ d.unescaped.positions.items
  pub text : IsJudgedText (taking d.items d.dialect) d.unescaped.text.items judged.unescaped.text.items

-- each of these descriptions, in order
abbrev pub AreJudgedAs : List SourceDescription → List SourceDescription → Type 0
AreJudgedAs [] judged = judged ≡ []
AreJudgedAs (d ∷ ds) judged = (one : SourceDescription) × (others : List SourceDescription)
    × IsJudgedAs d one × AreJudgedAs ds others × (judged ≡ one ∷ others)

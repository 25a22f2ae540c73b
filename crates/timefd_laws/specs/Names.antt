-- Rules about names.
use Rattle.std.specs.Prelude.{◌≡◌, Bool, true, false, codes, Option, Some, None}
use Rattle.timefd_lang_component.specs.Tree.{Text}
use Rattle.timefd_lang_fault.specs.Faults.{invalid_name}
use Rattle.timefd_language.specs.declared.description_version.DescriptionVersion.{DescriptionVersion}
use Rattle.timefd_lang_fault.specs.declared.name.Name.{Name}
use Rattle.timefd_language.specs.Head.{Head, name_index}
use Rattle.timefd_language.specs.Grammar.{no_nested}
use Rattle.timefd_language.specs.Lookup.{IsNameOf}
use Rattle.timefd_language.specs.Names.{row_for}
use Rattle.timefd_language.specs.Recased.{SameButCase}
use Rattle.timefd_laws.specs.Heads.{IsRefused, IsNamed}

-- A word names exactly one thing, or nothing.
abbrev pub OneName : Type 0
OneName = (strict : Bool) (word : Text) → (name : Option Name) × IsNameOf strict word name
    × ((other : Option Name) → IsNameOf strict word other → name ≡ other)

-- An unknown name is reported at its start, whatever its modifiers are.
abbrev pub UnknownName : Type 0
UnknownName = (v : DescriptionVersion) (h : Head) (white : Text) → IsNamed v h None
    → IsRefused v h no_nested white (invalid_name h.name) (name_index h)

-- The case of a name makes a difference only in version 3.
abbrev pub NamesWithoutCase : Type 0
NamesWithoutCase = (a b : Text) (name : Option Name) → SameButCase a b → IsNameOf false a name
    → IsNameOf false b name

-- a name as it is written in the table
abbrev pub spelled_name : Name → Text
spelled_name Name.Optional = codes "optional"
spelled_name Name.First = codes "first"
spelled_name (Name.Component n) = (row_for n).name

abbrev pub NamesWithCase : Type 0
NamesWithCase = (word : Text) (name : Name) → IsNameOf true word (Some name)
    → word ≡ spelled_name name

-- Which language would read components in a text that has none.
use Rattle.std.specs.Prelude.{codes, if◌then◌else◌, Option, Some, None}
use Rattle.timefd_lang_component.specs.Tree.{Text}
use Rattle.timefd_lang_warnings.specs.declared.elsewhere.Elsewhere.{Elsewhere}
use Rattle.timefd_lang_warnings.specs.declared.mark.ComponentMark.{ComponentMark}
use Rattle.timefd_lang_warnings.specs.Marks.{is_somewhere}

-- the first language whose mark is in the text
abbrev pub read_elsewhere : Text → Option Elsewhere
read_elsewhere text =
    if is_somewhere ComponentMark.Percent text then Some Elsewhere.Strftime
    else if is_somewhere ComponentMark.Bracket text then Some Elsewhere.Brackets
    else if is_somewhere ComponentMark.Brace text then Some Elsewhere.Braces
    else if is_somewhere ComponentMark.Twice text then Some Elsewhere.Patterns
    else None

abbrev pub name_of : Elsewhere → Text
name_of Elsewhere.Strftime = codes "strftime"
name_of Elsewhere.Brackets = codes "version 3"
name_of Elsewhere.Braces = codes "a format string of Rust or Python"
name_of Elsewhere.Patterns = codes "a pattern of Java or ICU"

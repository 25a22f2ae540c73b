-- The help for a fault, in words.
use Rattle.std.specs.Prelude.{◌==◌, List, ◌++◌, codes, length, Some, None, if◌then◌else◌}
use Rattle.std.specs.List.{join_by}
use denote.Ref.{Bor}
use Rattle.timefd_lang_component.specs.Tree.{Text}
use Rattle.timefd_lint_diagnosis.specs.declared.help.Help.{Help}
use Rattle.timefd_lint_diagnosis.specs.declared.help.Help.TheVariants.{Words, LeaveOut, Advice}
use Rattle.timefd_lang_fault.specs.declared.rule.Slot.{Slot}
use Rattle.timefd_lang_fault.specs.declared.rule.Slot.TheVariants.{Name, Key, Value}

-- What a word was meant to be.
abbrev pub subject : Slot → Text
subject Name = codes "name"
subject (Key name) = codes "key"
subject (Value key) = codes "value"

abbrev pub quoted : Bor Text → Text
quoted word = codes "`" ++ (word.now ++ codes "`")

abbrev pub listed : List (Bor Text) → Text
listed words = join_by quoted (codes ", ") words

-- The help if no word is allowed: a bracket may take no key, and a key may take a number.
abbrev pub wordless : Slot → Text
wordless Name = codes "a number from 1 to 65535"
wordless (Key name) = codes "this bracket takes no modifier"
wordless (Value key) = codes "a number from 1 to 65535"

abbrev pub allowed_text : Slot → List (Bor Text) → Text
allowed_text slot words =
    if length words == 0 then wordless slot
    else codes "a " ++ (subject slot ++ (codes " here is one of " ++ listed words))

abbrev pub help_text : Help → Text
help_text (Words slot allowed (Some word)) =
    codes "the nearest " ++ (subject slot ++ (codes " is `" ++ (word.now ++ codes "`")))
help_text (Words slot allowed None) = allowed_text slot allowed.now
help_text (LeaveOut key) =
    codes "leave out `" ++ (key.now ++ codes "`, or set `repr` to what takes it")
help_text (Advice advice) = advice.now

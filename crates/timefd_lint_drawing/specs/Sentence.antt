-- The sentence of a fault, as it is shown: it shows only so much of a word, and no hidden character.
use Rattle.std.specs.Prelude.{Bool, true, false, ◌++◌, codes}
use Rattle.timefd_lang_component.specs.Tree.{Text}
use Rattle.timefd_lang_fault.specs.Faults.{Fault, Kind, fault, invalid_name, invalid_modifier}
use Rattle.timefd_lang_fault.specs.Sentences.{sentence}
use Rattle.timefd_lint_drawing.specs.Shown.{cut_end, most_of_a_word, safe}

abbrev pub brief_kind : Kind → Kind
brief_kind (invalid_name name) = invalid_name (cut_end most_of_a_word name)
brief_kind (invalid_modifier word) = invalid_modifier (cut_end most_of_a_word word)
brief_kind other = other

abbrev pub brief : Fault → Fault
brief f = fault (brief_kind f.kind) f.index

abbrev pub shown_sentence : Fault → Text
shown_sentence f = safe (sentence (brief f))

-- For a further fault the sentence ends with what it was found without.
abbrev pub reported_sentence : Bool → Fault → Text
reported_sentence false f = shown_sentence f
reported_sentence true f = shown_sentence f ++ codes " (with the errors before it left out)"

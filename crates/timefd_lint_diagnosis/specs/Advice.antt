-- What to do against a fault, in words.
use Rattle.std.specs.Prelude.{◌≡◌, ◌++◌, ◌==◌, ◌||◌, true, codes, flat_map, is_some}
use Rattle.std.specs.List.{list_all}
use Rattle.timefd_parse.specs.Tree.{Text}
use Rattle.timefd_language.specs.Letters as table
use Rattle.timefd_language.specs.Letters.{is_one_of, item_in, unflagged}
use Rattle.timefd_language.specs.Strftime.{percent}
use Rattle.timefd_language.specs.declared.description_version.DescriptionVersion.{DescriptionVersion}
use Rattle.timefd_language.specs.declared.description_version.DescriptionVersion.TheVariants.{One, Two, Three}
use Rattle.timefd_lang_fault.specs.declared.code.Code.{Code}
use Rattle.timefd_lang_fault.specs.declared.code.Code.TheVariants.{UnclosedBracket, UnknownName, InvalidModifier, MissingName, MissingModifier, InvalidEscape, UnescapedBracket, MissingSpace, MissingDescription, MissingAlternative, NestedTooDeep, SeveralDescriptions, OptionalItem, FirstItem, UnsupportedFlag, UnsupportedLetter, NestedInComponent, DuplicateModifier, RefusedModifier}

-- how a literal bracket is written

abbrev pub unclosed : DescriptionVersion → Text
unclosed One = codes "close it with `]`, or write `[[` for a literal bracket"
unclosed Two = codes "close it with `]`, or write `\\[` for a literal bracket"
unclosed Three = codes "close it with `]`, or write `\\[` for a literal bracket"

abbrev pub nameless : DescriptionVersion → Text
nameless One = codes "name a component, or write `[[` for a literal bracket"
nameless Two = codes "name a component, or write `\\[` for a literal bracket"
nameless Three = codes "name a component, or write `\\[` for a literal bracket"

-- Advice against a fault of a version. Two faults are only strftime's, and if another word has to be
-- written, words are named instead.
abbrev pub advice : DescriptionVersion → Code → Text
advice v UnclosedBracket = unclosed v
advice v UnknownName = codes "write another word"
advice v InvalidModifier = codes "a modifier is a key, a colon and a value, with no white space"
advice v MissingName = nameless v
advice v MissingModifier = codes "say how many bytes are ignored, from 1 to 65535, as in `[ignore count:2]`"
advice v InvalidEscape = codes "a backslash goes before `[`, `]` or another backslash only: write two for a literal one"
advice v UnescapedBracket = codes "write `\\]` for a literal bracket"
advice v MissingSpace = codes "put a space before this bracket"
advice v MissingDescription = codes "put what is optional into brackets, as in `[optional [:[second]]]`"
advice v MissingAlternative = codes "put each alternative into brackets, as in `[first [[day]] [[ordinal]]]`"
advice v NestedTooDeep = codes "descriptions nest at most 127 deep"
advice v SeveralDescriptions = codes "put all that is optional into one description"
advice v OptionalItem = codes "`parse` and `parse_borrowed` take optional items only in version 3; `format_description!` and `parse_owned` always do"
advice v FirstItem = codes "`parse` and `parse_borrowed` take alternatives only in version 3; `format_description!` and `parse_owned` always do"
advice v UnsupportedFlag = codes "only `optional` and `first` take nested descriptions"
advice v UnsupportedLetter = codes "only `optional` and `first` take nested descriptions"
advice v NestedInComponent = codes "only `optional` and `first` take nested descriptions"
advice v DuplicateModifier = codes "leave out one of the two"
advice v RefusedModifier = codes "write another word"

-- the letters of strftime, in the order of the alphabet
abbrev pub letters : Text
letters = codes "aAbBcCdDeFgGhHIjklmMnpPrRsStTuUVwWxXyYz"

-- Each letter of the table except the percent sign is one of these, and each of these is read.
abbrev pub LettersAreRead : Type 0
LettersAreRead =
    (list_all (λ b. (b == percent) || is_one_of b letters) (flat_map (λ l. l.letters) table.letters) ≡ true)
    × (list_all (λ b. is_some (item_in table.letters unflagged b)) letters ≡ true)

abbrev pub strftime_advice : Code → Text
strftime_advice InvalidEscape =
    codes "a letter has to follow, or write `%%` for a literal percent sign"
strftime_advice UnsupportedFlag =
    codes "leave out the `O`: the letter after it is read without it"
strftime_advice UnsupportedLetter =
    codes "names of time zones aren't known: `%z` writes the offset from UTC"
strftime_advice _ =
    codes "the letters are " ++ (letters ++ codes ", and `%%` is a percent sign")

-- The messages about words that aren't written, and about arguments that the program can't use.
use Rattle.std.specs.Prelude.{ℕ, ◌≡◌, ◌⊎◌, ◌++◌, codes, Option, Some, None}
use Rattle.std.specs.Fmt.{decimal}
use Rattle.timefd_lang_component.specs.Tree.{Text}
use Rattle.timefd_lint_drawing.specs.Shown.{safe}
use Rattle.timefd_date_format.specs.declared.field.Unshown.{Unshown}
use Rattle.timefd_date_format.specs.Sentences.{unshown_sentence}
use Rattle.timefd_date_moment.specs.Display.{offset_text}
use Rattle.timefd_date_moment.specs.declared.fields.fault.ReadError.{ReadError}
use Rattle.timefd_date_moment.specs.Reading.Sentences.{sentence}
use Rattle.timefd_description.specs.Sentences.{unread_sentence}
use Rattle.timefd_format.specs.declared.asked.CommandLineError.{CommandLineError}
use Rattle.timefd_format.specs.declared.asked.CommandLineError.TheVariants as errors
use Rattle.timefd_format.specs.declared.moment.OffsetConflict.{OffsetConflict}
use Rattle.timefd_format.specs.declared.header.HeaderError.{HeaderError}
use Rattle.timefd_format.specs.declared.header.HeaderError.TheVariants as header
use Rattle.timefd_format.specs.declared.moment.MomentError.{MomentError}
use Rattle.timefd_format.specs.declared.moment.MomentError.TheVariants as fails
use Rattle.timefd_format.specs.declared.source.MomentSource.{MomentSource}
use Rattle.timefd_format.specs.declared.word.LanguageOption.{LanguageOption}
use Rattle.timefd_format.specs.declared.word.LanguageOption.TheVariants as options
use Rattle.timefd_format.specs.Absent.{absent_sentence}
use Rattle.timefd_format.specs.Expected.{IsExpectedIn}
use Rattle.timefd_format.specs.Words.{option_name}

-- the message for a moment that a component can't show
abbrev pub unshown_message : Text → Unshown → Text
unshown_message word u =
    codes "timefd_format: `" ++ (safe word ++ (codes "` is not written: "
    ++ (unshown_sentence u ++ codes "\n")))

-- the message for a text that doesn't read, with the number of its line if it has one
abbrev pub not_read : Option ℕ → Text → Text → Text
not_read (Some line) word why =
    codes "timefd_format: line " ++ (decimal line ++ (codes ": `" ++ (safe word
    ++ (codes "` is not read: " ++ (why ++ codes "\n")))))
not_read None word why =
    codes "timefd_format: `" ++ (safe word ++ (codes "` is not read: " ++ (why ++ codes "\n")))

-- the message for a word that isn't a moment, for this reason
abbrev pub no_moment : Text → Text → Text
no_moment word why =
    codes "timefd_format: `" ++ (safe word ++ (codes "` isn't a moment: " ++ (why ++ codes "\n")))

-- the message for a word whose offset isn't the one that the time zone in brackets has
abbrev pub conflicting : Text → OffsetConflict → Text
conflicting word c =
    codes "timefd_format: `" ++ (safe word ++ (codes "` isn't a moment: its offset is " ++ (offset_text c.written
    ++ (codes ", and the time zone in brackets has " ++ (offset_text c.zone ++ codes " then\n")))))

abbrev pub expected_sentence : Text → ℕ → Text
expected_sentence literal index =
    codes "`" ++ (safe literal ++ (codes "` was expected at byte " ++ decimal index))

-- Why a part of a word doesn't read. Names the literal that was expected, if it can be found.
abbrev pub IsStopSentence : MomentSource → Text → ReadError → Text → Type 0
IsStopSentence source word u why =
    (why ≡ unread_sentence u)
    ⊎ ((literal : Text) × IsExpectedIn source word literal × (why ≡ expected_sentence literal u.index))

-- The message for a word that names or shows no moment. Why a text isn't a moment is in the words of the library
-- jiff, which quote nothing.
abbrev pub IsUnreadMessage : MomentSource → Option ℕ → Text → MomentError → Text → Type 0
IsUnreadMessage source line word fails.Clock message =
    message ≡ codes "timefd_format: the clock can't be read\n"
IsUnreadMessage source line word fails.LocalZone message =
    message ≡ codes "timefd_format: `now` is in the zone of TZ, which names none; set it, as in TZ=Europe/Berlin or TZ=UTC\n"
IsUnreadMessage source line word fails.Seconds message =
    message ≡ no_moment word (codes "`@` is followed by whole seconds since 1970, as in @1700000000, of a year from -999999 to 999999")
IsUnreadMessage source line word fails.Brackets message =
    message ≡ no_moment word (codes "brackets hold the name of one time zone and nothing else, as in 2026-11-23T05:36:07+01:00[Europe/Berlin]")
IsUnreadMessage source line word fails.NoOffset message =
    message
    ≡ no_moment word (codes "a time zone in brackets is checked against a time and an offset; write both, as in 2026-11-23T05:36:07+01:00[Europe/Berlin]")
IsUnreadMessage source line word fails.NoZone message =
    message ≡ no_moment word (codes "there is no time zone of the name in brackets; names look like Europe/Berlin")
IsUnreadMessage source line word (fails.Conflict c) message = message ≡ conflicting word c
IsUnreadMessage source line word fails.Years message =
    message ≡ no_moment word (codes "offsets of time zones are known in the years -9999 to 9999")
IsUnreadMessage source line word fails.NoInstant message =
    message ≡ no_moment word (codes "`--zone` shows what has a date, a time and an offset, as 2026-11-23T05:36:07+01:00")
IsUnreadMessage source line word fails.Memory message = ⊥
IsUnreadMessage source line word (fails.Absent day) message = message ≡ not_read line word (absent_sentence day)
IsUnreadMessage source line word (fails.Text e) message = (why : Text) × (message ≡ no_moment word why)
IsUnreadMessage source line word (fails.Unread u) message =
    (why : Text) × IsStopSentence source word u why × (message ≡ not_read line word why)
IsUnreadMessage source line word (fails.Value v) message = message ≡ not_read line word (sentence v)
IsUnreadMessage source line word fails.NoDate message =
    message ≡ not_read line word (codes "no date agrees with all that was read")

-- the message for a record without the column
abbrev pub no_field_message : ℕ → Text
no_field_message line =
    codes "timefd_format: line " ++ (decimal line
    ++ codes " has too few fields to have the column\n")

-- the message for quotes that aren't closed
abbrev pub open_message : ℕ → Text
open_message line =
    codes "timefd_format: line " ++ (decimal line
    ++ codes ": quotes begin and don't end; nothing is read from here on\n")

-- the message for a table without a first record
abbrev pub no_header_message : Text → Text
no_header_message name =
    codes "timefd_format: there is no first line to name the column `" ++ (safe name ++ codes "`\n")

-- the message for a table whose first record doesn't name the column
abbrev pub unnamed_message : Text → HeaderError → Text
unnamed_message name header.Missing =
    codes "timefd_format: the first line names no column `" ++ (safe name ++ codes "`\n")
unnamed_message name header.Twice =
    codes "timefd_format: the first line names two columns `" ++ (safe name
    ++ codes "`; give the number of one\n")

-- the sentence for a word that isn't a value of the option
abbrev pub no_language : LanguageOption → Text → Text
no_language options.Both word =
    codes "`" ++ (safe word ++ codes "` isn't a value of `--language`: one of 1, 2, 3, strftime, python, c, gnu, chrono, jiff, ruby, java, go, moment")
no_language options.Written word =
    codes "`" ++ (safe word ++ codes "` isn't a value of `--to-language`: one of 1, 2, 3, strftime, python, c, gnu, chrono, jiff, ruby, java, go, moment")

-- the sentence that says what is wrong with the arguments
abbrev pub option_sentence : CommandLineError → Text
option_sentence (errors.Unknown word) =
    codes "there is no option `" ++ (safe word.now
    ++ codes "`; --help lists them, and after `--` it is a description")
option_sentence (errors.MissingLanguage option) =
    codes "`" ++ (option_name option ++ codes "` needs a value: one of 1, 2, 3, strftime, python, c, gnu, chrono, jiff, ruby, java, go, moment")
option_sentence errors.MissingRead = codes "`--read` needs a value: a description to read by"
option_sentence errors.ReadTwice = codes "`--read` is given twice"
option_sentence (errors.NoLanguage option word) = no_language option word.now
option_sentence errors.MissingColumn =
    codes "`--csv` needs a value: the number of a column, or its name in the first line"
option_sentence errors.ColumnTwice =
    codes "`--csv` is given twice, and one run changes one column"
option_sentence errors.NoColumn = codes "`--csv` counts from 1; there is no column 0"
option_sentence errors.MissingOtherwise =
    codes "`--else` needs a value: one of keep, empty, fail"
option_sentence (errors.NoOtherwise word) =
    codes "`" ++ (safe word.now ++ codes "` isn't a value of `--else`: one of keep, empty, fail")
option_sentence errors.MissingZone =
    codes "`--zone` needs a value: a time zone, as Europe/Berlin"
option_sentence errors.MomentBesideColumn =
    codes "`--csv` reads the standard input; no moment follows the description then"
option_sentence errors.NothingRead =
    codes "`--to-language` goes with `--read`; without it `--language` names the language"
option_sentence errors.GuessBeside =
    codes "`--guess` goes with no option but `--quiet`; it finds a description"
option_sentence errors.NoDescription = codes "there is no description; --help shows the usage"

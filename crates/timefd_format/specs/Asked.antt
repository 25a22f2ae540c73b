-- What words ask for, read from the first to the last.
use Rattle.std.specs.Prelude.{Bool, ◌&&◌, if◌then◌else◌, List, [], ◌∷◌, length, false, true, Option, Some, None, Result, Ok, Err}
use denote.Ref.{Bor}
use Rattle.timefd_lang_component.specs.Tree.{Text}
use Rattle.timefd_format.specs.declared.asked.Asked.{Asked}
use Rattle.timefd_format.specs.declared.asked.Asked.TheVariants as asks
use Rattle.timefd_format.specs.declared.asked.CommandLineError.{CommandLineError}
use Rattle.timefd_format.specs.declared.asked.CommandLineError.TheVariants as errors
use Rattle.timefd_format.specs.declared.asked.AskedSoFar.{AskedSoFar}
use Rattle.timefd_format.specs.declared.asked.AskedStep.{AskedStep}
use Rattle.timefd_format.specs.declared.asked.AskedStep.TheVariants.{Next, Done}
use Rattle.timefd_format.specs.declared.asked.Wanted.{Wanted}
use Rattle.timefd_format.specs.declared.asked.Wanted.TheVariants as wants
use Rattle.timefd_format.specs.declared.column.Column.{Column}
use Rattle.timefd_format.specs.declared.otherwise.Otherwise.{Otherwise}
use Rattle.timefd_format.specs.declared.otherwise.Otherwise.TheVariants as otherwise
use Rattle.timefd_parse.specs.DescriptionVersion.TheVariants.{One, Two, Three}
use Rattle.timefd_parse.specs.LanguageType.TheVariants as languages
use Rattle.timefd_format.specs.declared.language.Wording.{Wording}
use Rattle.timefd_format.specs.declared.language.Wording.TheVariants.{Own, Other}
use Rattle.timefd_format.specs.declared.language.Wordings.{Wordings}
use Rattle.timefd_format.specs.declared.word.LanguageOption.{LanguageOption}
use Rattle.timefd_format.specs.declared.word.LanguageOption.TheVariants as options
use Rattle.timefd_format.specs.declared.word.GivenWord.{GivenWord}
use Rattle.timefd_format.specs.declared.word.GivenWord.TheVariants as words
use Rattle.timefd_format.specs.Words.{word_of, column_named, wording_named, default_wording, otherwise_named}

abbrev pub Answer : Type 0
Answer = Result Asked CommandLineError

-- A language to write in needs a description to read by.
abbrev pub wordings_by : Option Wording → Option (Bor Text) → Wording → Option Wordings
wordings_by None read language = Some (record { read = language; written = language })
wordings_by (Some written) (Some text) language =
    Some (record { read = language; written = written })
wordings_by (Some written) None language = None

-- the wordings of both descriptions
abbrev pub wordings_of : AskedSoFar → Option Wordings
wordings_of state = wordings_by state.to_language state.read state.language

-- Without `--else`, a record of a table stays as it is, and a line is left out.
abbrev pub otherwise_by : Option Otherwise → Option Column → Otherwise
otherwise_by (Some o) column = o
otherwise_by None (Some column) = otherwise.Keep
otherwise_by None None = otherwise.Nothing

abbrev pub otherwise_of : AskedSoFar → Otherwise
otherwise_of state = otherwise_by state.otherwise state.column

abbrev pub request : Wordings → AskedSoFar → Bor Text → List (Bor Text) → Answer
request wordings state description moments = Ok (asks.Run (record {
  wordings = wordings;
  read = state.read;
  description = description;
  column = state.column;
  otherwise = otherwise_of state;
  zone = state.zone;
  moment_count = length moments;
  is_quiet = state.is_quiet;
}))

-- A column is taken from the standard input, so no moment may be given beside it.
abbrev pub request_of : Option Column → Wordings → AskedSoFar → Bor Text → List (Bor Text) → Answer
request_of None wordings state description moments = request wordings state description moments
request_of (Some column) wordings state description [] = request wordings state description []
request_of (Some column) wordings state description (moment ∷ moments) =
    Err errors.MomentBesideColumn

abbrev pub requested_in : Option Wordings → AskedSoFar → Bor Text → List (Bor Text) → Answer
requested_in (Some wordings) state description moments =
    request_of state.column wordings state description moments
requested_in None state description moments = Err errors.NothingRead

-- The words after a description are moments, whatever they begin with.
abbrev pub requested : AskedSoFar → Bor Text → List (Bor Text) → Answer
requested state description moments =
    requested_in (wordings_of state) state description moments

abbrev pub after_end : AskedSoFar → List (Bor Text) → Answer
after_end state [] = Err errors.NoDescription
after_end state (description ∷ moments) = requested state description moments

abbrev pub before_read_of : Option (Bor Text) → AskedSoFar → AskedStep
before_read_of (Some text) state = Done (Err errors.ReadTwice)
before_read_of None state = Next (record state { wanted = wants.Read })

-- A description to read by is given once.
abbrev pub before_read : AskedSoFar → AskedStep
before_read state = before_read_of state.read state

abbrev pub before_column_of : Option Column → AskedSoFar → AskedStep
before_column_of (Some column) state = Done (Err errors.ColumnTwice)
before_column_of None state = Next (record state { wanted = wants.Column })

-- A column is given once.
abbrev pub before_column : AskedSoFar → AskedStep
before_column state = before_column_of state.column state

abbrev pub is_version_three : Wording → Bool
is_version_three (Own (languages.Version Three)) = true
is_version_three (Own (languages.Version One)) = false
is_version_three (Own (languages.Version Two)) = false
is_version_three (Own languages.Strftime) = false
is_version_three (Other dialect) = false

abbrev pub has_no_description : Option Wording → Option (Bor Text) → Bool
has_no_description None None = true
has_no_description None (Some text) = false
has_no_description (Some language) read = false

abbrev pub has_no_table : Option Column → Option Otherwise → Bool
has_no_table None None = true
has_no_table None (Some o) = false
has_no_table (Some column) o = false

abbrev pub has_no_zone : Option (Bor Text) → Bool
has_no_zone None = true
has_no_zone (Some zone) = false

-- whether all options but `--quiet` are as they are by default
abbrev pub is_bare : AskedSoFar → Bool
is_bare state = is_version_three state.language && has_no_description state.to_language state.read
    && has_no_table state.column state.otherwise && has_no_zone state.zone

-- All words after `--guess` are texts. `--quiet` may come before it.
abbrev pub guess : AskedSoFar → List (Bor Text) → Answer
guess state texts =
    if is_bare state
    then Ok (asks.Guess (record { text_count = length texts; is_quiet = state.is_quiet }))
    else Err errors.GuessBeside

abbrev pub first_by : GivenWord → AskedSoFar → Bor Text → List (Bor Text) → AskedStep
first_by (words.Language option) state word after =
    Next (record state { wanted = wants.Language option })
first_by words.Read state word after = before_read state
first_by words.Csv state word after = before_column state
first_by words.Else state word after = Next (record state { wanted = wants.Otherwise })
first_by words.Guess state word after = Done (guess state after)
first_by words.Zone state word after = Next (record state { wanted = wants.Zone })
first_by words.Quiet state word after = Next (record state { is_quiet = true })
first_by words.Help state word after = Done (Ok asks.Help)
first_by words.Version state word after = Done (Ok asks.Version)
first_by words.End state word after = Done (after_end state after)
first_by words.Unknown state word after = Done (Err (errors.Unknown word))
first_by words.Description state word after = Done (requested state word after)

abbrev pub first : AskedSoFar → Bor Text → List (Bor Text) → AskedStep
first state word after = first_by (word_of word.now) state word after

-- the state with this language for the option
abbrev pub with_option : AskedSoFar → LanguageOption → Wording → AskedSoFar
with_option state options.Both l = record state { language = l; wanted = wants.Nothing }
with_option state options.Written l =
    record state { to_language = Some l; wanted = wants.Nothing }

abbrev pub with_language_by : Option Wording → AskedSoFar → LanguageOption → Bor Text → AskedStep
with_language_by (Some l) state option word = Next (with_option state option l)
with_language_by None state option word = Done (Err (errors.NoLanguage option word))

abbrev pub with_language : AskedSoFar → LanguageOption → Bor Text → AskedStep
with_language state option word = with_language_by (wording_named word.now) state option word

abbrev pub with_read : AskedSoFar → Bor Text → AskedStep
with_read state word = Next (record state { read = Some word; wanted = wants.Nothing })

abbrev pub with_column_by : Option Column → AskedSoFar → AskedStep
with_column_by (Some c) state = Next (record state { column = Some c; wanted = wants.Nothing })
with_column_by None state = Done (Err errors.NoColumn)

abbrev pub with_column : AskedSoFar → Bor Text → AskedStep
with_column state word = with_column_by (column_named word) state

abbrev pub with_otherwise_by : Option Otherwise → AskedSoFar → Bor Text → AskedStep
with_otherwise_by (Some o) state word =
    Next (record state { otherwise = Some o; wanted = wants.Nothing })
with_otherwise_by None state word = Done (Err (errors.NoOtherwise word))

abbrev pub with_otherwise : AskedSoFar → Bor Text → AskedStep
with_otherwise state word = with_otherwise_by (otherwise_named word.now) state word

abbrev pub with_zone : AskedSoFar → Bor Text → AskedStep
with_zone state word = Next (record state { zone = Some word; wanted = wants.Nothing })

abbrev pub one_more_by : Wanted → AskedSoFar → Bor Text → List (Bor Text) → AskedStep
one_more_by wants.Nothing state word after = first state word after
one_more_by (wants.Language option) state word after = with_language state option word
one_more_by wants.Read state word after = with_read state word
one_more_by wants.Column state word after = with_column state word
one_more_by wants.Otherwise state word after = with_otherwise state word
one_more_by wants.Zone state word after = with_zone state word

-- What one more word leads to.
abbrev pub one_more : AskedSoFar → Bor Text → List (Bor Text) → AskedStep
one_more state word after = one_more_by state.wanted state word after

abbrev pub at_end : Wanted → CommandLineError
at_end wants.Nothing = errors.NoDescription
at_end (wants.Language option) = errors.MissingLanguage option
at_end wants.Read = errors.MissingRead
at_end wants.Column = errors.MissingColumn
at_end wants.Otherwise = errors.MissingOtherwise
at_end wants.Zone = errors.MissingZone

abbrev pub go : (AskedSoFar → Answer) → AskedStep → Answer
go more (Next state) = more state
go more (Done answer) = answer

abbrev pub asked_from : AskedSoFar → List (Bor Text) → Answer
asked_from state [] = Err (at_end state.wanted)
asked_from state (word ∷ after) = go (λ s. asked_from s after) (one_more state word after)

-- What all words ask for.
abbrev pub asked_of : List (Bor Text) → Answer
asked_of words =
    asked_from (record {
      language = default_wording;
      to_language = None;
      read = None;
      column = None;
      otherwise = None;
      zone = None;
      is_quiet = false;
      wanted = wants.Nothing;
    }) words

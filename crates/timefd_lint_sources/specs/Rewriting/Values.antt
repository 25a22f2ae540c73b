-- A file whose values of keys are fixed or converted.
use Rattle.std.specs.Prelude.{ℕ, ◌≡◌, ◌≢◌, ◌-◌, false, List, [], ◌∷◌, ◌++◌, drop, take, Option, None, Some, IsUtf8}
use Rattle.std.specs.declared.alloc.Global.{Global}
use Rattle.std.specs.declared.vec.Vec.{Vec}
use Rattle.timefd_parse.specs.Tree.{Text}
use Rattle.timefd_lang_convert.specs.declared.conversion.Conversion.{Conversion}
use Rattle.timefd_lang_convert.specs.Conversions.{conversion_between}
use Rattle.timefd_lang_dialect.specs.declared.dialect.Dialect as other
use Rattle.timefd_language.specs.declared.description_version.DescriptionVersion.{DescriptionVersion}
use Rattle.timefd_language.specs.declared.description_version.DescriptionVersion.TheVariants.{One, Two, Three}
use Rattle.timefd_language.specs.declared.description_version.Language.{Language}
use Rattle.timefd_language.specs.declared.description_version.Language.TheVariants.{Version}
use Rattle.timefd_lint_rewrite.specs.LineChanges.{IsChanged, IsUnchangeable}
use Rattle.timefd_lint_rewrite.specs.declared.layout.Layout.TheVariants as layouts
use Rattle.timefd_lint_rewrite.specs.declared.line_change.LineChange.{LineChange}
use Rattle.timefd_lint_rewrite.specs.declared.line_change.LineChange.TheVariants.{Own, Other}
use Rattle.timefd_lint_scan.specs.declared.description.SourceDescription.{SourceDescription}
use Rattle.timefd_lint_scan.specs.declared.dialect.FormatLanguage.{FormatLanguage}
use Rattle.timefd_lint_scan.specs.declared.keys.format.FileFormat.{FileFormat}
use Rattle.timefd_lint_scan.specs.declared.keys.key.DescriptionKey.{DescriptionKey}
use Rattle.timefd_lint_scan.specs.Found.{AreInOrder}
use Rattle.timefd_lint_scan.specs.Keys.Found.{AreAllValues}
use Rattle.timefd_lint_scan.specs.Keys.Spelled.{IsStringFor, string_end}
use Rattle.timefd_lint_sources.specs.Judged.{language_of, other_of, text_of}
use Rattle.timefd_lint_sources.specs.Rewriting.Written.{IsSourceRewritten, is_rewriting}
use Rattle.timefd_lint_sources.specs.declared.reported.Finder.{Finder}
use Rattle.timefd_lint_sources.specs.declared.reported.Finder.TheVariants.{Rust, Keys}
use Rattle.timefd_lint_sources.specs.declared.rewriting.change.Change.{Change}
use Rattle.timefd_lint_sources.specs.declared.rewriting.change.Change.TheVariants.{Mended, Least, Normal}
use Rattle.timefd_lint_sources.specs.declared.rewriting.outcome.Outcome.{Outcome}
use Rattle.timefd_lint_sources.specs.declared.rewriting.outcome.Outcome.TheVariants.{PassedOver, Same, Rewritten, Refused, WithItems, NotText, NotALiteral, ByHand}
use Rattle.timefd_lint_sources.specs.declared.rewriting.source.NewSource.{NewSource}
use Rattle.timefd_lint_sources.specs.declared.rewriting.value.ValueAnswer.{ValueAnswer}
use Rattle.timefd_lint_sources.specs.declared.rewriting.value.ValueAnswer.TheVariants.{Stays, Becomes}

abbrev pub least : Option Conversion → Option LineChange
least None = None
least (Some conversion) = Some (Own (layouts.Least conversion))

abbrev pub normal : Option Conversion → Option LineChange
normal None = None
normal (Some conversion) = Some (Own (layouts.Normal conversion))

-- a text in a language of `time`
abbrev pub own_change : Change → Language → Option LineChange
own_change (Mended fixes) language = Some (Own (layouts.Fixed language fixes))
own_change (Least version) language = least (conversion_between language (Version version))
own_change Normal language = normal (conversion_between language (Version Three))

abbrev pub to_version : DescriptionVersion → other.Dialect → Option LineChange
to_version One dialect = None
to_version Two dialect = None
to_version Three dialect = Some (Other dialect)

-- A format of another language or library becomes a text of version 3.
abbrev pub other_change : Change → other.Dialect → Option LineChange
other_change (Mended fixes) dialect = None
other_change (Least version) dialect = to_version version dialect
other_change Normal dialect = None

abbrev pub change_by : Change → FormatLanguage → Option other.Dialect → Option LineChange
change_by change dialect None = own_change change (language_of dialect)
change_by change dialect (Some other) = other_change change other

-- how a value in this language is changed
abbrev pub value_change : Change → FormatLanguage → Option LineChange
value_change change dialect = change_by change dialect (other_of dialect)

-- The string denotes the new text in place of the value.
abbrev pub IsNewString : FileFormat → Text → SourceDescription → Text → Text → Type 0
IsNewString format source d answer string =
    (found : Vec ℕ Global) × IsStringFor format source d.piece.start answer (Some found) × (string ≡ found.items)

-- The outcome of a value that is changed so, and the string in its place if it is rewritten.
abbrev pub IsOutcomeBy : LineChange → FileFormat → Text → SourceDescription → Outcome → Option Text → Type 0
IsOutcomeBy change format source d PassedOver string = ⊥
IsOutcomeBy change format source d Same string = IsChanged change (text_of d) (text_of d)
IsOutcomeBy change format source d Rewritten None = ⊥
IsOutcomeBy change format source d Rewritten (Some string) =
    (answer : Text) × IsChanged change (text_of d) answer × (answer ≢ text_of d)
    × IsNewString format source d answer string
IsOutcomeBy change format source d Refused string = IsUtf8 (text_of d) × IsUnchangeable change (text_of d)
IsOutcomeBy change format source d WithItems string = ⊥
IsOutcomeBy change format source d NotText string = ¬ IsUtf8 (text_of d)
IsOutcomeBy change format source d NotALiteral string =
    (answer : Text) × IsChanged change (text_of d) answer × (answer ≢ text_of d)
    × IsStringFor format source d.piece.start answer None
IsOutcomeBy change format source d ByHand string = ⊥

abbrev pub IsOutcomeIn : Option LineChange → FileFormat → Text → SourceDescription → Outcome → Option Text → Type 0
IsOutcomeIn None format source d o string = o ≡ PassedOver
IsOutcomeIn (Some change) format source d o string = IsOutcomeBy change format source d o string

-- The outcome of a value: it is passed over if no change leads from its language.
abbrev pub IsOutcome : Change → FileFormat → Text → SourceDescription → Outcome → Option Text → Type 0
IsOutcome change format source d o string =
    IsOutcomeIn (value_change change d.dialect) format source d o string

abbrev pub IsAnswerIn : Option LineChange → FileFormat → Text → SourceDescription → ValueAnswer → Type 0
IsAnswerIn change format source d (Stays o) =
    (is_rewriting o ≡ false) × IsOutcomeIn change format source d o None
IsAnswerIn change format source d (Becomes string) =
    IsOutcomeIn change format source d Rewritten (Some string.items)

abbrev pub IsAnswer : Change → FileFormat → Text → SourceDescription → ValueAnswer → Type 0
IsAnswer change format source d answer = IsAnswerIn (value_change change d.dialect) format source d answer

-- What is written up to the end of a value that is rewritten: what precedes it, and the new string.
abbrev pub front_of : Text → ℕ → SourceDescription → Option Text → Text
front_of source from d None = []
front_of source from d (Some string) = take (d.piece.start - from) (drop from source) ++ string

-- where the source goes on
abbrev pub next_of : FileFormat → Text → ℕ → SourceDescription → Option Text → ℕ
next_of format source from d None = from
next_of format source from d (Some string) = string_end format source d.piece.start d.piece.end

-- What is written for a source from a position on: each of these values that is rewritten is another string, and every
-- other byte is the source's.
abbrev pub AreRewritten : Change → FileFormat → Text → ℕ → List SourceDescription → List Outcome → Text → Type 0
AreRewritten change format source from [] [] new = new ≡ drop from source
AreRewritten change format source from [] (o ∷ os) new = ⊥
AreRewritten change format source from (d ∷ ds) [] new = ⊥
AreRewritten change format source from (d ∷ ds) (o ∷ os) new =
    (string : Option Text) × (rest : Text) × IsOutcome change format source d o string
    × AreRewritten change format source (next_of format source from d string) ds os rest
    × (new ≡ front_of source from d string ++ rest)

-- A file whose values of keys are all rewritten. They are in it one after another.
pub record AreValuesRewritten (change : Change) (format : FileFormat) (source : Text) (keys : List DescriptionKey) (new : NewSource)
    : Type 0 where
  pub values : List SourceDescription
  pub all : AreAllValues format source keys values
  pub in_order : AreInOrder 0 values
  pub rewritten : AreRewritten change format source 0 values new.outcomes.items new.bytes.items

-- The outcome of one more value, and what is written for it.
pub record Adds (change : Change) (format : FileFormat) (source : Text) (d : SourceDescription) (from : ℕ)
    (outcomes : List Outcome) (bytes : Text) (outcomes' : List Outcome) (bytes' : Text) (next : ℕ) : Type 0 where
  pub outcome : Outcome
  pub string : Option Text
  pub is : IsOutcome change format source d outcome string
  pub more_outcomes : outcomes' ≡ outcomes ++ (outcome ∷ [])
  pub more_bytes : bytes' ≡ bytes ++ front_of source from d string
  pub goes_on : next ≡ next_of format source from d string

-- What is found in a source, rewritten: the literals of Rust, or the values of keys.
abbrev pub IsFoundRewritten : Change → Finder → Text → NewSource → Type 0
IsFoundRewritten change (Rust calls) source new = IsSourceRewritten change source calls.now new
IsFoundRewritten change (Keys format keys) source new = AreValuesRewritten change format source keys.now new

-- Names without which a source has no descriptions.
use Rattle.std.specs.Prelude.{None, ◌==◌, codes, ◌⊎◌, if◌then◌else◌, length, List, [], ◌∷◌, string_bytes, ⊤}
use Rattle.memchr.specs.Find.{FindsNeedle, IsFirstByte, is_byte}
use Rattle.timefd_lint_scan.specs.declared.own_call.OwnCall.{OwnCall}
use Rattle.timefd_lint_scan.specs.Bytes.{Text}

-- A word is nowhere in a source.
pub record Lacks (source word : Text) : Type 0 where
  pub nowhere : FindsNeedle source word 0 None

-- A source has neither the macro of `time`, nor its attribute, nor the word that a comment names a language
-- with.
pub record HasNoMacro (source : Text) : Type 0 where
  pub format_description : Lacks source (codes "format_description")
  pub attribute : Lacks source (codes "#[time(")
  pub timefd : Lacks source (codes "timefd")

-- It has none of the functions of `time` that read a description.
pub record HasNoParser (source : Text) : Type 0 where
  pub parse_borrowed : Lacks source (codes "parse_borrowed")
  pub parse_owned : Lacks source (codes "parse_owned")
  pub parse_strftime : Lacks source (codes "parse_strftime_")

-- It has no escape that denotes a `%`: `\x25`, `\u{25}`.
pub record HasNoPercentEscape (source : Text) : Type 0 where
  pub hex : Lacks source (codes "\\x25")
  pub number : Lacks source (codes "\\u{25}")

pub record HasNoPercent (source : Text) : Type 0 where
  pub byte : IsFirstByte (is_byte 37) source None
  pub escape : HasNoPercentEscape source

pub record HasNoReaderOfChrono (source : Text) : Type 0 where
  pub parse_from_str : Lacks source (codes "parse_from_str")
  pub datetime_from_str : Lacks source (codes "datetime_from_str")
  pub parse_and_remainder : Lacks source (codes "parse_and_remainder")

-- It has none of the functions of chrono that read a description, nor both `format` and a `%`.
pub record HasNoCallOfChrono (source : Text) : Type 0 where
  pub reader : HasNoReaderOfChrono source
  pub items : Lacks source (codes "StrftimeItems")
  pub local : Lacks source (codes "ChronoLocal")
  pub utc : Lacks source (codes "ChronoUtc")
  pub format : HasNoPercent source ⊎ Lacks source (codes "format")

-- It has none of the functions of jiff that read a description.
pub record HasNoCallOfJiff (source : Text) : Type 0 where
  pub strftime : Lacks source (codes "strftime")
  pub strptime : Lacks source (codes "strptime")
  pub strtime : Lacks source (codes "strtime")
  pub broken_down : Lacks source (codes "BrokenDownTime")

-- the first word of a call, without which no source has it
abbrev pub word_of : OwnCall → Text
word_of call = if length (string_bytes call.owner) == 0 then string_bytes call.name else string_bytes call.owner

-- It has none of these calls of a project.
abbrev pub HasNoOwn : Text → List OwnCall → Type 0
HasNoOwn source [] = ⊤
HasNoOwn source (call ∷ calls) = Lacks source (word_of call) × HasNoOwn source calls

-- A source has none of the names that descriptions come with, and none of these calls of its project.
pub record HasNoName (source : Text) (calls : List OwnCall) : Type 0 where
  pub macro : HasNoMacro source
  pub parser : HasNoParser source
  pub chrono : HasNoCallOfChrono source
  pub jiff : HasNoCallOfJiff source
  pub own : HasNoOwn source calls

-- A source has no fence, which a block in a doc comment begins with.
pub record HasNoFence (source : Text) : Type 0 where
  pub backticks : Lacks source (codes "```")
  pub tildes : Lacks source (codes "~~~")

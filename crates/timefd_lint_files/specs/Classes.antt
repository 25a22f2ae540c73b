-- The classes of bytes in the brackets of patterns.
use Rattle.std.specs.Prelude.{ℕ, ◌≡◌, Bool, true, false, not, ◌&&◌, ◌||◌, ◌==◌, if◌then◌else◌, List, [], ◌∷◌, drop, Option, Some, None}
use denote.Ref.{Bor}
use Rattle.timefd_lint_files.specs.declared.class.ByteRange.{ByteRange}
use Rattle.timefd_lint_files.specs.declared.ranges.ByteStep.{ByteStep}
use Rattle.timefd_lint_files.specs.declared.ranges.RangeStep.{RangeStep}
use Rattle.timefd_lint_files.specs.declared.token.PatternToken.{PatternToken}
use Rattle.timefd_lint_files.specs.declared.token.PatternToken.TheVariants.{Byte, Any, OneOf, Star, Folders, Rest, Nothing}
use Rattle.timefd_lint_files.specs.Lines.{backslash, exclamation}
use Rattle.timefd_lint_files.specs.Matching.{Text}

-- `[`, `]`, `-`, `:`, `^`
abbrev pub bracket : ℕ
bracket = 91

abbrev pub closing : ℕ
closing = 93

abbrev pub minus : ℕ
minus = 45

abbrev pub colon : ℕ
colon = 58

abbrev pub caret : ℕ
caret = 94

-- a byte, and what follows it
pub record OneByte : Type 0 where
  pub byte : ℕ
  pub rest : Text

-- a range, and what follows it
pub record OneRange : Type 0 where
  pub range : ByteRange
  pub rest : Text

abbrev pub read_byte : Option ByteStep → Option OneByte
read_byte None = None
read_byte (Some step) = Some (record { byte = step.byte; rest = step.rest.now })

abbrev pub read_range : Option RangeStep → Option OneRange
read_range None = None
read_range (Some step) = Some (record { range = step.range; rest = step.rest.now })

abbrev pub read_rest : Option (Bor Text) → Option Text
read_rest None = None
read_rest (Some rest) = Some rest.now

abbrev pub bare : Text → Option OneByte
bare [] = None
bare (byte ∷ bytes) = Some (record { byte = byte; rest = bytes })

-- A backslash takes the next byte as it is.
abbrev pub first_byte : Text → Option OneByte
first_byte [] = None
first_byte (byte ∷ bytes) = if byte == backslash then bare bytes else bare (byte ∷ bytes)

abbrev pub alone : ℕ → Text → Option OneRange
alone byte rest = Some (record { range = record { first = byte; last = byte }; rest = rest })

abbrev pub up_to : ℕ → Option OneByte → Option OneRange
up_to first None = None
up_to first (Some last) =
    Some (record { range = record { first = first; last = last.byte }; rest = last.rest })

abbrev pub goes_on : Text → Bool
goes_on [] = false
goes_on (byte ∷ bytes) = not (byte == closing)

-- A minus makes a range up to the next byte. At the end of the class it is a byte of its own.
abbrev pub range_from : ℕ → Text → Option OneRange
range_from first [] = alone first []
range_from first (byte ∷ bytes) =
    if (byte == minus) && goes_on bytes then up_to first (first_byte bytes)
    else alone first (byte ∷ bytes)

abbrev pub range_of : Option OneByte → Option OneRange
range_of None = None
range_of (Some first) = range_from first.byte first.rest

-- whether a colon comes right before the next closing bracket
abbrev pub ends_in_colon : Bool → Text → Bool
ends_in_colon is_colon [] = false
ends_in_colon is_colon (byte ∷ bytes) = if byte == closing then is_colon else ends_in_colon (byte == colon) bytes

-- After a bracket: the name of a class between colons, as in `[:alpha:]`.
abbrev pub is_name : Text → Bool
is_name [] = false
is_name (byte ∷ bytes) = (byte == colon) && ends_in_colon false bytes

-- whether no range begins with this byte: a bracket that closes the class, or one with a name after it
abbrev pub begins_no_range : Bool → ℕ → Text → Bool
begins_no_range is_first byte after =
    ((byte == closing) && not is_first) || ((byte == bracket) && is_name after)

-- At the beginning of a class a closing bracket means itself.
abbrev pub first_range : Bool → Text → Option OneRange
first_range is_first [] = None
first_range is_first (byte ∷ bytes) =
    if begins_no_range is_first byte bytes then None else range_of (first_byte (byte ∷ bytes))

-- what follows the bracket that closes a class; none if there is no bracket
abbrev pub after_closing : Text → Option Text
after_closing [] = None
after_closing (byte ∷ bytes) = if byte == closing then Some bytes else None

-- The text is these ranges, one after another, and then the bracket that closes the class, if there is one.
abbrev pub AreRanges : Bool → Text → List ByteRange → Option Text → Type 0
AreRanges is_first text [] after =
    (first_range is_first text ≡ None) × (after ≡ after_closing text)
AreRanges is_first text (range ∷ ranges) after = (rest : Text)
    × (first_range is_first text ≡ Some (record { range = range; rest = rest }))
    × AreRanges false rest ranges after

-- A class is negated by a leading `!` or `^`.
abbrev pub is_negated : Text → Bool
is_negated [] = false
is_negated (byte ∷ bytes) = (byte == exclamation) || (byte == caret)

abbrev pub unnegated : Text → Text
unnegated text = if is_negated text then drop 1 text else text

-- The class after the opening bracket. One that isn't closed, or has a named class in it, matches nothing.
abbrev pub IsClass : Bool → Text → PatternToken → Text → Type 0
IsClass negated text (Byte byte) rest = ⊥
IsClass negated text Any rest = ⊥
IsClass negated text (OneOf class) rest =
    (class.is_negated ≡ negated) × AreRanges true text class.ranges.items (Some rest)
IsClass negated text Star rest = ⊥
IsClass negated text Folders rest = ⊥
IsClass negated text Rest rest = ⊥
IsClass negated text Nothing rest =
    (rest ≡ text) × (ranges : List ByteRange) × AreRanges true text ranges None

abbrev pub BeginsClass : Text → PatternToken → Text → Type 0
BeginsClass text token rest = IsClass (is_negated text) (unnegated text) token rest

-- The tokens of a pattern.
use Rattle.std.specs.Prelude.{ℕ, ◌≡◌, Bool, true, false, ◌&&◌, ◌==◌, nat_lt, if◌then◌else◌, List, [], ◌∷◌, length, Option, Some, None}
use Rattle.timefd_lint_files.specs.declared.token.PatternToken.{PatternToken}
use Rattle.timefd_lint_files.specs.declared.token.PatternToken.TheVariants.{Byte, Any, OneOf, Star, Folders, Rest, Nothing}
use Rattle.timefd_lint_files.specs.declared.token.TokenStep.{TokenStep}
use Rattle.timefd_lint_files.specs.Classes.{BeginsClass, bracket}
use Rattle.timefd_lint_files.specs.Lines.{backslash}
use Rattle.timefd_lint_files.specs.Matching.{Text, slash}

-- `*`, `?`
abbrev pub star : ℕ
star = 42

abbrev pub question : ℕ
question = 63

-- a token, and what follows it
pub record Begin : Type 0 where
  pub token : PatternToken
  pub rest : Text

abbrev pub begun : TokenStep → Begin
begun step = record { token = step.token; rest = step.rest.now }

abbrev pub after_stars : Text → Text
after_stars [] = []
after_stars (byte ∷ bytes) = if byte == star then after_stars bytes else byte ∷ bytes

-- What follows two or more stars that begin a name: with a slash they mean any folders, at the end they mean
-- everything below.
abbrev pub doubled : Text → Begin
doubled [] = record { token = Rest; rest = [] }
doubled (byte ∷ bytes) =
    if byte == slash then record { token = Folders; rest = bytes }
    else record { token = Star; rest = byte ∷ bytes }

-- What follows the first star. Several stars in a row count as one.
abbrev pub starred : Bool → Text → Begin
starred begins_name text =
    if begins_name && nat_lt (length (after_stars text)) (length text) then doubled (after_stars text)
    else record { token = Star; rest = after_stars text }

-- A backslash takes the next byte as it is.
abbrev pub escaped : Text → Begin
escaped [] = record { token = Nothing; rest = [] }
escaped (byte ∷ bytes) = record { token = Byte byte; rest = bytes }

abbrev pub begun_by : Bool → ℕ → Text → Begin
begun_by begins_name byte after =
    if byte == star then starred begins_name after
    else if byte == backslash then escaped after
    else if byte == question then record { token = Any; rest = after }
    else record { token = Byte byte; rest = after }

abbrev pub BeginsBy : Bool → Bool → ℕ → Text → PatternToken → Text → Type 0
BeginsBy true begins_name byte after token rest = BeginsClass after token rest
BeginsBy false begins_name byte after token rest =
    begun_by begins_name byte after ≡ record { token = token; rest = rest }

-- The text begins with this token. A bracket opens a class.
abbrev pub Begins : Bool → Text → PatternToken → Text → Type 0
Begins begins_name [] token rest = ⊥
Begins begins_name (byte ∷ bytes) token rest =
    BeginsBy (byte == bracket) begins_name byte bytes token rest

-- none at the end
abbrev pub BeginsAny : Bool → Text → Option TokenStep → Type 0
BeginsAny begins_name text None = text ≡ []
BeginsAny begins_name text (Some step) = Begins begins_name text step.token step.rest.now

-- A name begins after a slash.
abbrev pub ends_name : PatternToken → Bool
ends_name (Byte byte) = byte == slash
ends_name Any = false
ends_name (OneOf class) = false
ends_name Star = false
ends_name Folders = true
ends_name Rest = false
ends_name Nothing = false

-- The text is these tokens, one after another, and nothing else.
abbrev pub AreTokens : Bool → Text → List PatternToken → Type 0
AreTokens begins_name text [] = text ≡ []
AreTokens begins_name text (token ∷ tokens) = (rest : Text)
    × Begins begins_name text token rest
    × AreTokens (ends_name token) rest tokens

-- The token that a text begins with, as in Rust's reference: the first that fits of a comment, a
-- string literal, a character literal, a run of white bytes, a word, a lifetime and a sign.
use Rattle.std.specs.Prelude.{ℕ, Bool, false, ◌&&◌, ◌==◌, if◌then◌else◌, [], ◌∷◌, drop, Option, Some, None}
use Rattle.timefd_lint_scan.specs.declared.class.ByteSet.TheVariants.{Line}
use Rattle.timefd_lint_scan.specs.declared.token.Encoding.{Encoding}
use Rattle.timefd_lint_scan.specs.declared.token.Encoding.TheVariants.{Str, Bytes, C}
use Rattle.timefd_lint_scan.specs.declared.token.LiteralKind.TheVariants.{Escaped, Raw}
use Rattle.timefd_lint_scan.specs.declared.token.Token.{Token}
use Rattle.timefd_lint_scan.specs.declared.token.Token.TheVariants.{White, Comment, Word, Lifetime, Character, Literal, Sign, Unclosed}
use Rattle.timefd_lint_scan.specs.declared.token.Step.{Step}
use Rattle.timefd_lint_scan.specs.Bytes.{Text, quote, apostrophe, star, slash, is_white, is_word, class_test}
use Rattle.timefd_lint_scan.specs.After.{after_run, hashes, after_string, after_raw, after_comment, after_character}

-- a token, and what follows it
pub record Begin : Type 0 where
  pub token : Token
  pub rest : Text

abbrev pub begun : Step → Begin
begun step = record { token = step.token; rest = step.rest.now }

abbrev pub begun_any : Option Step → Option Begin
begun_any None = None
begun_any (Some step) = Some (begun step)

-- A token that isn't closed goes on to the end.
abbrev pub closed : Token → Option Text → Begin
closed token None = record { token = Unclosed; rest = [] }
closed token (Some rest) = record { token = token; rest = rest }

-- after the first slash of a comment
abbrev pub opened_comment : Text → Option Begin
opened_comment [] = None
opened_comment (b ∷ bytes) =
    if b == slash then Some (record { token = Comment; rest = after_run (class_test Line) bytes })
    else if b == star then Some (closed Comment (after_comment 0 0 bytes))
    else None

abbrev pub comment : Text → Option Begin
comment [] = None
comment (b ∷ bytes) = if b == slash then opened_comment bytes else None

-- after the opening quote of a string
abbrev pub string : Encoding → Text → Begin
string e bytes = closed (Literal (Escaped e)) (after_string bytes)

-- after the `#` of a raw string
abbrev pub opened_raw : Encoding → ℕ → Text → Option Begin
opened_raw e n [] = None
opened_raw e n (b ∷ bytes) =
    if b == quote then Some (closed (Literal (Raw e n)) (after_raw n bytes)) else None

-- after the `r` of a raw string
abbrev pub raw : Encoding → Text → Option Begin
raw e text = opened_raw e (hashes text) (drop (hashes text) text)

-- after the `b` or `c` of a literal
abbrev pub prefixed : Encoding → Text → Option Begin
prefixed e [] = None
prefixed e (b ∷ bytes) =
    if b == quote then Some (string e bytes)
    else if b == 114 then raw e bytes
    else None

-- `".."`, `r".."`, `b".."`, `br".."`, `c".."`, `cr".."`
abbrev pub literal : Text → Option Begin
literal [] = None
literal (b ∷ bytes) =
    if b == quote then Some (string Str bytes)
    else if b == 114 then raw Str bytes
    else if b == 98 then prefixed Bytes bytes
    else if b == 99 then prefixed C bytes
    else None

-- after the `b` of a byte literal
abbrev pub after_byte : Text → Option Text
after_byte [] = None
after_byte (b ∷ bytes) = if b == apostrophe then after_character bytes else None

-- `'..'`, `b'..'`
abbrev pub after_quoted : Text → Option Text
after_quoted [] = None
after_quoted (b ∷ bytes) =
    if b == apostrophe then after_character bytes
    else if b == 98 then after_byte bytes
    else None

abbrev pub begins_word : Text → Bool
begins_word [] = false
begins_word (b ∷ bytes) = is_word b

-- a token without a closing mark
abbrev pub plain : ℕ → Text → Begin
plain b bytes =
    if is_white b then record { token = White; rest = after_run is_white bytes }
    else if is_word b then record { token = Word; rest = after_run is_word bytes }
    else if (b == apostrophe) && begins_word bytes then
    record { token = Lifetime; rest = after_run is_word bytes }
    else record { token = Sign; rest = bytes }

abbrev pub quoted_or_plain : ℕ → Text → Option Text → Begin
quoted_or_plain b bytes (Some rest) = record { token = Character; rest = rest }
quoted_or_plain b bytes None = plain b bytes

abbrev pub literal_or_less : Text → ℕ → Text → Option Begin → Begin
literal_or_less text b bytes (Some begin) = begin
literal_or_less text b bytes None = quoted_or_plain b bytes (after_quoted text)

abbrev pub comment_or_less : Text → ℕ → Text → Option Begin → Begin
comment_or_less text b bytes (Some begin) = begin
comment_or_less text b bytes None = literal_or_less text b bytes (literal text)

-- the token that a text begins with; none if the text is empty
abbrev pub first : Text → Option Begin
first [] = None
first (b ∷ bytes) = Some (comment_or_less (b ∷ bytes) b bytes (comment (b ∷ bytes)))

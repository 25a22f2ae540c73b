-- Names of keys, and where their values begin.
use Rattle.std.specs.Prelude.{ℕ, Bool, false, ◌&&◌, ◌||◌, ◌==◌, ◌-◌, if◌then◌else◌, [], ◌∷◌, length, drop, Option, Some, None}
use denote.Ref.{Bor}
use Rattle.timefd_lint_scan.specs.After.{after_run}
use Rattle.timefd_lint_scan.specs.Bytes.{Text, quote, apostrophe, hash, class_test, is_bare, is_blank, is_line_end}
use Rattle.timefd_lint_scan.specs.declared.class.ByteSet.{ByteSet}
use Rattle.timefd_lint_scan.specs.declared.class.ByteSet.TheVariants.{Blank, Skipped}
use Rattle.timefd_lint_scan.specs.Marks.{in_front}
use Rattle.timefd_lint_scan.specs.declared.keys.format.FileFormat.{FileFormat}
use Rattle.timefd_lint_scan.specs.declared.keys.format.FileFormat.TheVariants.{Toml, Json, Yaml}
use Rattle.timefd_lint_scan.specs.declared.keys.name.KeyName as code
use Rattle.timefd_lint_scan.specs.Keys.Strings.{Reading, string_at}
use Rattle.timefd_lint_scan.specs.Keys.Styles.{begins_plain, begins_space, is_flow}

-- the bytes that a name denotes, and what follows it
pub record Name : Type 0 where
  pub text : Text
  pub after : Text

abbrev pub seen : code.KeyName → Name
seen n = record { text = n.text.items; after = n.after.now }

abbrev pub seen_any : Option code.KeyName → Option Name
seen_any None = None
seen_any (Some n) = Some (seen n)

abbrev pub now_any : Option (Bor Text) → Option Text
now_any None = None
now_any (Some text) = Some text.now

abbrev pub is_quote : FileFormat → ℕ → Bool
is_quote Json b = b == quote
is_quote Toml b = (b == quote) || (b == apostrophe)
is_quote Yaml b = (b == quote) || (b == apostrophe)

abbrev pub begins_comment : Text → Bool
begins_comment [] = false
begins_comment (b ∷ bytes) = b == hash

-- A YAML name without quotes ends before a sign of inline lists, the end of the line, a colon and a space, or
-- a comment.
abbrev pub ends_name : ℕ → Text → Bool
ends_name b bytes =
    is_flow b || is_line_end b || ((b == 58) && begins_space bytes) || (is_blank b && begins_comment bytes)

abbrev pub after_plain : Text → Text
after_plain [] = []
after_plain (b ∷ bytes) = if ends_name b bytes then b ∷ bytes else after_plain bytes

abbrev pub after_word : Text → Text
after_word [] = []
after_word (b ∷ bytes) = if begins_plain b bytes then after_plain (b ∷ bytes) else b ∷ bytes

-- what follows a name without quotes; the whole text if there is none, as in JSON
abbrev pub after_unquoted : FileFormat → Text → Text
after_unquoted Toml text = after_run is_bare text
after_unquoted Json text = text
after_unquoted Yaml text = after_word text

-- a byte before these; nothing if it is a blank and nothing follows it
abbrev pub with_front : ℕ → Text → Text
with_front b [] = if is_blank b then [] else b ∷ []
with_front b (c ∷ bytes) = b ∷ c ∷ bytes

-- a text without the blanks at its end
abbrev pub without_blanks : Text → Text
without_blanks [] = []
without_blanks (b ∷ bytes) = with_front b (without_blanks bytes)

abbrev pub quoted_name : Text → Option Reading → Option Name
quoted_name source None = None
quoted_name source (Some r) = Some (record { text = r.text; after = drop 1 (drop r.closing source) })

abbrev pub name_in_front : Text → Text → Option Name
name_in_front text after =
    if length text - length after == 0 then None
    else Some (record { text = without_blanks (in_front text after); after = after })

abbrev pub unquoted_name : FileFormat → Text → Option Name
unquoted_name format text = name_in_front text (after_unquoted format text)

abbrev pub name_in : FileFormat → Text → ℕ → Text → Option Name
name_in format source at [] = None
name_in format source at (b ∷ bytes) =
    if is_quote format b then quoted_name source (string_at format source at)
    else unquoted_name format (b ∷ bytes)

-- the name at a position of a source: a string, or a word without quotes
abbrev pub name_at : FileFormat → Text → ℕ → Option Name
name_at format source at = name_in format source at (drop at source)

-- what may be between a name and its value: blanks, in JSON also line ends
abbrev pub between : FileFormat → ByteSet
between Toml = Blank
between Json = Skipped
between Yaml = Blank

-- `=` in TOML, otherwise `:`
abbrev pub separator : FileFormat → ℕ
separator Toml = 61
separator Json = 58
separator Yaml = 58

abbrev pub after_separator : FileFormat → Text → Option Text
after_separator format [] = None
after_separator format (b ∷ bytes) =
    if b == separator format then Some (after_run (class_test (between format)) bytes) else None

-- the text from the value on, given the text after a name; none if the name isn't a key's
abbrev pub value_after : FileFormat → Text → Option Text
value_after format text = after_separator format (after_run (class_test (between format)) text)

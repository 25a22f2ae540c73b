-- The patterns of a `.gitignore` file, one a line.
use Rattle.std.specs.Prelude.{ℕ, ◌≡◌, ◌≢◌, ◌+◌, ◌==◌, if◌then◌else◌, List, [], ◌∷◌, ◌++◌, take, drop, Option, Some, None}
use Rattle.timefd_lint_files.specs.declared.ignore_file.IgnoreFile.{IgnoreFile}
use Rattle.timefd_lint_files.specs.declared.pattern.Pattern.{Pattern}
use Rattle.timefd_lint_files.specs.Matching.{Text}
use Rattle.timefd_lint_files.specs.Patterns.{IsRead}

-- the end of a line
abbrev pub line_feed : ℕ
line_feed = 10

-- how many bytes come before it, or before the end
abbrev pub line_len : Text → ℕ
line_len [] = 0
line_len (byte ∷ bytes) = if byte == line_feed then 0 else line_len bytes + 1

-- what follows a line of this length and its line feed
abbrev pub after_line : ℕ → Text → Text
after_line len text = drop (len + 1) text

abbrev pub listed : Option Pattern → List Pattern
listed None = []
listed (Some pattern) = pattern ∷ []

abbrev pub all_listed : List (Option Pattern) → List Pattern
all_listed [] = []
all_listed (found ∷ more) = listed found ++ all_listed more

-- These are read from the lines of a text, in order.
abbrev pub AreOfLines : Text → List (Option Pattern) → Type 0
AreOfLines text [] = text ≡ []
AreOfLines text (found ∷ more) =
    (text ≢ []) × IsRead (take (line_len text) text) found
    × AreOfLines (after_line (line_len text) text) more

-- The patterns are those of the lines. Some lines have none.
abbrev pub AreRead : Text → List Pattern → Type 0
AreRead text patterns = (found : List (Option Pattern)) × AreOfLines text found × (patterns ≡ all_listed found)

-- The file has the patterns of the text. They match what follows the name of a folder, with this before it.
abbrev pub IsReadFrom : Text → ℕ → Text → IgnoreFile → Type 0
IsReadFrom front folder_len text file =
    (file.folder_len ≡ folder_len) × (file.front.items ≡ front) × AreRead text file.patterns.items

-- They match what follows the name of its folder.
abbrev pub IsReadAs : ℕ → Text → IgnoreFile → Type 0
IsReadAs folder_len text file = IsReadFrom [] folder_len text file

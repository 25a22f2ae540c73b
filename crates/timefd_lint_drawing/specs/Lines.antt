-- The lines of a drawing, and the line that editors read.
use Rattle.std.specs.Prelude.{ℕ, Bool, true, false, [], ◌∷◌, ◌++◌, codes, decimal}
use Rattle.timefd_lang_component.specs.Tree.{Text}
use Rattle.timefd_lint_drawing.specs.Shown.{safe}
use Rattle.timefd_lint_drawing.specs.declared.lines.Paint.{Paint}
use Rattle.timefd_lint_drawing.specs.declared.severity.FindingSeverity.{FindingSeverity}
use Rattle.timefd_lint_drawing.specs.Severities.{paint, word}

-- The bytes that begin a colour, and those that end it.
abbrev pub begin : Bool → Paint → Text
begin false paint = []
begin true Paint.Red = 27 ∷ codes "[1;31m"
begin true Paint.Yellow = 27 ∷ codes "[1;33m"
begin true Paint.Cyan = 27 ∷ codes "[1;36m"

abbrev pub plain : Bool → Text
plain true = 27 ∷ codes "[0m"
plain false = []

-- `error[CODE]: SENTENCE`
abbrev pub head : Bool → FindingSeverity → Text → Text → Text
head colored severity code sentence =
    begin colored (paint severity) ++ (word severity ++ (codes "[" ++ (code ++ (codes "]"
    ++ (plain colored ++ (codes ": " ++ (sentence ++ codes "\n")))))))

-- What comes before the file.
abbrev pub arrow : Bool → Text → Text
arrow colored margin =
    margin ++ (begin colored Paint.Cyan ++ (codes "-->" ++ (plain colored ++ codes " ")))

-- `--> FILE:LINE:COLUMN`
abbrev pub position_line : Bool → Text → Text → ℕ → ℕ → Text
position_line colored margin file line column =
    margin ++ (begin colored Paint.Cyan ++ (codes "-->" ++ (plain colored ++ (codes " " ++ (safe file
    ++ (codes ":" ++ (decimal line ++ (codes ":" ++ (decimal column ++ codes "\n")))))))))

-- A line with a bar.
abbrev pub bar_line : Bool → Text → Text
bar_line colored margin =
    margin ++ (codes " " ++ (begin colored Paint.Cyan ++ (codes "|" ++ (plain colored ++ codes "\n"))))

-- What comes before the text.
abbrev pub numbered : Bool → ℕ → Text
numbered colored line =
    begin colored Paint.Cyan ++ (decimal line ++ (codes " |" ++ (plain colored ++ codes " ")))

-- `LINE | TEXT`
abbrev pub text_line : Bool → ℕ → Text → Text → Text → Text
text_line colored line before at after =
    begin colored Paint.Cyan ++ (decimal line ++ (codes " |" ++ (plain colored ++ (codes " " ++ (before
    ++ (at ++ (after ++ codes "\n")))))))

-- A line with a bar, and carets of this colour after an indent.
abbrev pub caret_line : Bool → Paint → Text → Text → Text → Text
caret_line colored paint margin indent carets =
    margin ++ (codes " " ++ (begin colored Paint.Cyan ++ (codes "|" ++ (plain colored ++ (codes " "
    ++ (indent ++ (begin colored paint ++ (carets ++ (plain colored ++ codes "\n")))))))))

-- `= help: HELP`
abbrev pub help_line : Bool → Text → Text → Text
help_line colored margin help =
    margin ++ (codes " " ++ (begin colored Paint.Cyan ++ (codes "=" ++ (plain colored ++ (codes " help: "
    ++ (help ++ codes "\n"))))))

-- `= note: ..`
abbrev pub note_line : Bool → Text → Text
note_line colored margin =
    margin ++ (codes " " ++ (begin colored Paint.Cyan ++ (codes "=" ++ (plain colored
    ++ codes " note: found with the errors before it left out\n"))))

-- For a further fault the line after the help says what it was found without.
abbrev pub help_lines : Bool → Bool → Text → Text → Text
help_lines false colored margin help = help_line colored margin help
help_lines true colored margin help = help_line colored margin help ++ note_line colored margin

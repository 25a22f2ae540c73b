-- The forms in which findings are written: the name of each and what it has, and what it writes.
use Rattle.std.specs.Prelude.{Bool, true, false, List, [], ◌∷◌, Option, None, Some, codes, bytes_eq, if◌then◌else◌}
use Rattle.std.specs.List.{join_by}
use Rattle.timefd_lang_component.specs.Tree.{Text}
use Rattle.timefd_lint_drawing.specs.declared.draw.Style.{Style}
use Rattle.timefd_lint_drawing.specs.declared.form.Format.{Format}
use Rattle.timefd_lint_drawing.specs.declared.form.Format.TheVariants.{Human, Json, Short, Github, Sarif}
use Rattle.timefd_lint_drawing.specs.declared.form.SentenceStyle.{SentenceStyle}
use Rattle.timefd_lint_drawing.specs.declared.form.SentenceStyle.TheVariants.{Shown, Reported, Whole}
use Rattle.timefd_lint_drawing.specs.Findings.{Located, Said}
use Rattle.timefd_lint_drawing.specs.Github.{github}
use Rattle.timefd_lint_drawing.specs.Human.{human}
use Rattle.timefd_lint_drawing.specs.Json.{json}
use Rattle.timefd_lint_drawing.specs.Sarif.{sarif}
use Rattle.timefd_lint_drawing.specs.Short.{short}

abbrev pub all : List Format
all = Human ∷ Json ∷ Short ∷ Github ∷ Sarif ∷ []

-- what a user writes for the form
abbrev pub name_of : Format → Text
name_of Human = codes "human"
name_of Json = codes "json"
name_of Short = codes "short"
name_of Github = codes "github"
name_of Sarif = codes "sarif"

abbrev pub named : Text → Option Format
named name =
    if bytes_eq name (codes "human") then Some Human
    else if bytes_eq name (codes "json") then Some Json
    else if bytes_eq name (codes "short") then Some Short
    else if bytes_eq name (codes "github") then Some Github
    else if bytes_eq name (codes "sarif") then Some Sarif
    else None

-- the names of all forms, with a comma between two of them
abbrev pub names : Text
names = join_by name_of (codes ", ") all

-- A drawing says at its end what a further fault was found without, and lines say it in the sentence.
abbrev pub sentences : Format → SentenceStyle
sentences Human = Shown
sentences Json = Whole
sentences Short = Reported
sentences Github = Reported
sentences Sarif = Whole

-- whether it has the position of what follows the part at fault
abbrev pub shows_fault_end : Format → Bool
shows_fault_end Human = false
shows_fault_end Json = false
shows_fault_end Short = false
shows_fault_end Github = true
shows_fault_end Sarif = true

-- whether it has that of what follows a text with a warning, and a part of another language's format
abbrev pub shows_part_end : Format → Bool
shows_part_end Human = false
shows_part_end Json = false
shows_part_end Short = false
shows_part_end Github = true
shows_part_end Sarif = false

-- Whether its columns count characters. All others count columns of a terminal.
abbrev pub counts_chars : Format → Bool
counts_chars Human = false
counts_chars Json = false
counts_chars Short = false
counts_chars Github = false
counts_chars Sarif = true

-- whether it has what is said aside: in the others all that is reported has the code of an error or a warning
abbrev pub shows_asides : Format → Bool
shows_asides Human = true
shows_asides Json = false
shows_asides Short = true
shows_asides Github = true
shows_asides Sarif = false

-- whether it is a drawing, and trees go with it
abbrev pub is_drawn : Format → Bool
is_drawn Human = true
is_drawn Json = false
is_drawn Short = false
is_drawn Github = false
is_drawn Sarif = false

-- whether all that is written is one document, which has a head and a tail and can't show changes
abbrev pub is_log : Format → Bool
is_log Human = false
is_log Json = false
is_log Short = false
is_log Github = false
is_log Sarif = true

-- a finding in the form
abbrev pub drawn_in : Format → Bool → Located → Said → Text
drawn_in Human colored l s = human colored l s
drawn_in Json colored l s = json l s
drawn_in Short colored l s = short l s
drawn_in Github colored l s = github l s
drawn_in Sarif colored l s = sarif l s

-- a finding in the form that is asked for
abbrev pub drawn_at : Style → Located → Said → Text
drawn_at style l s = drawn_in style.format style.is_colored l s

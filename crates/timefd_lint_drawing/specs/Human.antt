-- A finding as a drawing.
use Rattle.std.specs.Prelude.{ℕ, Bool, false, [], ◌++◌, Option, None, Some, codes}
use Rattle.timefd_lang_component.specs.Tree.{Text}
use Rattle.timefd_lint_drawing.specs.declared.finding.FindingKind.{FindingKind}
use Rattle.timefd_lint_drawing.specs.declared.finding.FindingKind.TheVariants.{Fault, Further, Labelled, Aside}
use Rattle.timefd_lint_drawing.specs.Findings.{Cut, Located, Said, is_further}
use Rattle.timefd_lint_drawing.specs.Lines.{head, position_line, help_lines}
use Rattle.timefd_lint_drawing.specs.Severities.{paint, word}
use Rattle.timefd_lint_drawing.specs.Sources.{margin, source}

-- the help in a drawing
abbrev pub help_below : Option Text → Bool → Bool → Text → Text
help_below None further colored margin = []
help_below (Some help) further colored margin = help_lines further colored margin help

abbrev pub helped : Bool → Text → Said → Text
helped colored margin s = help_below s.help (is_further s.kind) colored margin

-- the position, the line with carets under the part, and the help
abbrev pub part : Bool → Located → Cut → Said → Text
part colored l c s =
    position_line colored (margin l.start.line) l.file l.start.line l.start.column
    ++ (source colored (paint s.severity) l.start.line c.before c.at c.after
    ++ helped colored (margin l.start.line) s)

abbrev pub below_in : Option Cut → Bool → Located → Said → Text
below_in None colored l s = position_line colored (codes " ") l.file l.start.line l.start.column
below_in (Some cut) colored l s = part colored l cut s

abbrev pub below : Bool → Located → Said → Text
below colored l s = below_in l.line colored l s

-- `note: SENTENCE`
abbrev pub plain_head : Said → Text
plain_head s = word s.severity ++ (codes ": " ++ (s.message ++ codes "\n"))

-- the first line: what is said aside has no code
abbrev pub head_by : FindingKind → Bool → Said → Text
head_by Fault colored s = head colored s.severity s.code s.message
head_by Further colored s = head colored s.severity s.code s.message
head_by Labelled colored s = head colored s.severity s.code s.message
head_by Aside colored s = plain_head s

-- whether the drawing has colours: what is said aside has none
abbrev pub is_painted : FindingKind → Bool → Bool
is_painted Fault colored = colored
is_painted Further colored = colored
is_painted Labelled colored = colored
is_painted Aside colored = false

abbrev pub drawing : Bool → Located → Said → Text
drawing colored l s = head_by s.kind colored s ++ (below colored l s ++ codes "\n")

abbrev pub human : Bool → Located → Said → Text
human colored l s = drawing (is_painted s.kind colored) l s

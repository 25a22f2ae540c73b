-- What each form shows of how bad a finding is.
use Rattle.std.specs.Prelude.{codes}
use Rattle.timefd_lang_component.specs.Tree.{Text}
use Rattle.timefd_lint_drawing.specs.declared.lines.Paint.{Paint}
use Rattle.timefd_lint_drawing.specs.declared.severity.FindingSeverity.{FindingSeverity}
use Rattle.timefd_lint_drawing.specs.declared.severity.FindingSeverity.TheVariants.{Error, Warning, Note}

abbrev pub word : FindingSeverity → Text
word Error = codes "error"
word Warning = codes "warning"
word Note = codes "note"

-- Its colour in a drawing.
abbrev pub paint : FindingSeverity → Paint
paint Error = Paint.Red
paint Warning = Paint.Yellow
paint Note = Paint.Cyan

-- How the workflow command of its annotations begins.
abbrev pub command : FindingSeverity → Text
command Error = codes "::error"
command Warning = codes "::warning"
command Note = codes "::notice"

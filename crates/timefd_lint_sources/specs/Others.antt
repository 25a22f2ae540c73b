-- The messages on what is wrong with a format of another language or library.
use Rattle.std.specs.Prelude.{ℕ, ◌++◌}
use Rattle.timefd_parse.specs.Tree.{Text}
use Rattle.timefd_lang_dialect.specs.declared.reason.Reason.{Reason}
use Rattle.timefd_lang_dialect.specs.declared.trapping.Found.{Found}
use Rattle.timefd_lint_drawing.specs.declared.draw.Style.{Style}
use Rattle.timefd_lint_drawing.specs.declared.position.Origin.{Origin}
use Rattle.timefd_lint_warnings.specs.Dialects.Judging.{refusal_drawn, trap_drawn}
use Rattle.timefd_lint_scan.specs.declared.description.SourceDescription.{SourceDescription}
use Rattle.timefd_lint_scan.specs.Found.{index_in_source}
use Rattle.timefd_lint_sources.specs.declared.reported.SourceText.{SourceText}
use Rattle.timefd_lint_sources.specs.Calls.{call_note}

-- where a source begins
abbrev pub source_origin : SourceText → Origin
source_origin s = record { file = s.file; line = 1 }

-- the message on a part that is refused, at its position in the source, and a note at a call that takes the format by
-- name
abbrev pub refusal_in : Style → SourceText → SourceDescription → Reason → ℕ → Text
refusal_in style s d reason index =
    refusal_drawn style (source_origin s) s.text.now reason (index_in_source d index) ++ call_note style s d

-- a trap with its position in the source
abbrev pub trap_placed : SourceDescription → Found → Found
trap_placed d f =
    record { trap = f.trap; start = index_in_source d f.start; end = index_in_source d f.end }

abbrev pub trap_in : Style → SourceText → SourceDescription → Found → Text
trap_in style s d f = trap_drawn style (source_origin s) s.text.now (trap_placed d f)

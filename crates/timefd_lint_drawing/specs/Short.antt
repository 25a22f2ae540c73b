-- A finding on one line, as editors read it.
use Rattle.std.specs.Prelude.{ℕ, ◌++◌, codes, decimal}
use Rattle.timefd_lang_component.specs.Tree.{Text}
use Rattle.timefd_lint_drawing.specs.declared.finding.FindingKind.{FindingKind}
use Rattle.timefd_lint_drawing.specs.declared.finding.FindingKind.TheVariants.{Fault, Further, Labelled, Aside}
use Rattle.timefd_lint_drawing.specs.Findings.{Located, Said}
use Rattle.timefd_lint_drawing.specs.Severities.{word}
use Rattle.timefd_lint_drawing.specs.Shown.{safe}

-- `warning[CODE]: SENTENCE`
abbrev pub labelled : Said → Text
labelled s = word s.severity ++ (codes "[" ++ (s.code ++ (codes "]: " ++ s.message)))

-- `note: SENTENCE`
abbrev pub aside : Said → Text
aside s = word s.severity ++ (codes ": " ++ s.message)

-- `FILE:LINE:COLUMN: SENTENCE`
abbrev pub short_line : Text → ℕ → ℕ → Text → Text
short_line file line column sentence =
    safe file ++ (codes ":" ++ (decimal line ++ (codes ":" ++ (decimal column ++ (codes ": "
    ++ (sentence ++ codes "\n"))))))

abbrev pub short_sentence : FindingKind → Said → Text
short_sentence Fault s = s.message
short_sentence Further s = s.message
short_sentence Labelled s = labelled s
short_sentence Aside s = aside s

abbrev pub short : Located → Said → Text
short l s = short_line l.file l.start.line l.start.column (short_sentence s.kind s)

-- A walk through the text of a description, which counts its open brackets.
use Rattle.std.specs.Prelude.{ℕ, ◌+◌, ◌-◌, ◌%◌, ◌==◌, Bool, true, false, not, ◌&&◌, [], ◌∷◌, if◌then◌else◌}
use Rattle.timefd_parse.specs.Tree.{Text}
use Rattle.timefd_language.specs.Bytes.{backslash, is_white, left, right}
use Rattle.timefd_language.specs.declared.description_version.DescriptionVersion.{DescriptionVersion}
use Rattle.timefd_language.specs.declared.description_version.DescriptionVersion.TheVariants.{One, Two, Three}
use Rattle.timefd_lint_lsp.specs.declared.editor.scan.TextScan.{TextScan}
use Rattle.timefd_lint_lsp.specs.Editor.Positions.{capped}

-- Whether the innermost open bracket is one of a component. The first is, the one inside it is one of a nested
-- description, and so on in turn.
abbrev pub is_in_component : TextScan → Bool
is_in_component s = s.depth % 2 == 1

abbrev pub opened : TextScan → Bool → TextScan
opened s may_escape = record { depth = capped (s.depth + 1); may_escape = may_escape; is_blank = true }

abbrev pub with_literal : TextScan → Bool → TextScan
with_literal s may_escape = record { depth = s.depth; may_escape = may_escape; is_blank = false }

-- A bracket is closed, if one is open.
abbrev pub closed : TextScan → TextScan
closed s = record { depth = s.depth - 1; may_escape = false; is_blank = false }

-- after a byte that opens no bracket and escapes nothing
abbrev pub step_on : TextScan → ℕ → TextScan
step_on s b =
    if b == right then closed s
    else record { depth = s.depth; may_escape = false; is_blank = s.is_blank && is_white b }

-- In version 1 a second `[` makes the first one a literal, if that is none within the bracket of a component.
abbrev pub step_of_one : TextScan → ℕ → TextScan
step_of_one s b =
    if not (b == left) then step_on s b
    else if s.may_escape then closed s else opened s (not (is_in_component s))

-- In versions 2 and 3 a backslash that is none within the bracket of a component makes the next byte a literal.
abbrev pub step_of_later : TextScan → ℕ → TextScan
step_of_later s b =
    if s.may_escape then with_literal s false
    else if (b == backslash) && not (is_in_component s) then with_literal s true
    else if b == left then opened s false
    else step_on s b

abbrev pub step : DescriptionVersion → TextScan → ℕ → TextScan
step One s b = step_of_one s b
step Two s b = step_of_later s b
step Three s b = step_of_later s b

abbrev pub scanned_from : DescriptionVersion → TextScan → Text → TextScan
scanned_from v s [] = s
scanned_from v s (b ∷ text) = scanned_from v (step v s b) text

abbrev pub start : TextScan
start = record { depth = 0; may_escape = false; is_blank = false }

-- the walk after all bytes of a text
abbrev pub scanned : DescriptionVersion → Text → TextScan
scanned v text = scanned_from v start text

-- Edits of a document that rewrite a description.
use Rattle.std.specs.Prelude.{ℕ, ◌≡◌, ◌+◌, ◌-◌, ◌==◌, if◌then◌else◌, List, [], ◌∷◌, ◌++◌, codes, length, Option, None, Some, string_bytes}
use Rattle.timefd_parse.specs.Tree.{Text}
use Rattle.timefd_lint_lsp.specs.declared.editor.action.Edit.{Edit}
use Rattle.timefd_lint_lsp.specs.Editor.Positions.{capped, range_of}
use Rattle.timefd_lint_scan.specs.declared.description.SourceDescription.{SourceDescription}
use Rattle.timefd_lint_scan.specs.declared.version.VersionPosition.{VersionPosition}
use Rattle.timefd_lint_scan.specs.declared.version.VersionPosition.TheVariants.{Digit, Unsaid, Call, Elsewhere}
use Rattle.timefd_lint_scan.specs.Literals.{body_end, inside}

-- One edit: this text instead of these bytes.
pub record IsEdit (document : Text) (from to : ℕ) (new : Text) (e : Edit) : Type 0 where
  pub range : e.range ≡ range_of document from to
  pub text : string_bytes e.text ≡ new

abbrev pub IsOneEdit : Text → ℕ → ℕ → Text → List Edit → Type 0
IsOneEdit text from to new edits = (e : Edit) × IsEdit text from to new e × (edits ≡ e ∷ [])

-- a version's digit, as a text
abbrev pub digit_text : ℕ → Text
digit_text digit =
    if digit == 49 then codes "1" else if digit == 50 then codes "2" else codes "3"

-- The number of a version replaces another one. If there is none, an argument with it is inserted before the
-- literal.
abbrev pub IsDigitEdit : Text → ℕ → ℕ → List Edit → Type 0
IsDigitEdit text at digit edits =
    IsOneEdit text at (capped (at + 1)) (digit_text digit) edits

abbrev pub IsArgumentEdit : Text → ℕ → ℕ → List Edit → Type 0
IsArgumentEdit text start digit edits =
    IsOneEdit text start start (codes "version = " ++ (digit_text digit ++ codes ", ")) edits

abbrev pub AreSaid : Text → ℕ → ℕ → VersionPosition → List Edit → Type 0
AreSaid text start digit (Digit at) edits = IsDigitEdit text at digit edits
AreSaid text start digit Unsaid edits = IsArgumentEdit text start digit edits
AreSaid text start digit Call edits = edits ≡ []
AreSaid text start digit Elsewhere edits = edits ≡ []

abbrev pub AreVersionEdits : Text → SourceDescription → Option ℕ → List Edit → Type 0
AreVersionEdits text d None edits = edits ≡ []
AreVersionEdits text d (Some digit) edits = AreSaid text d.piece.start digit d.version edits

abbrev pub len_of : Option Text → ℕ
len_of None = 0
len_of (Some text) = length text

-- how many bytes are between the quotes of a description's literal
abbrev pub inside_len : Text → SourceDescription → ℕ
inside_len text d = len_of (inside text d.piece d.kind)

-- Another body replaces the one between the quotes of the literal.
abbrev pub AreBodyEdits : Text → SourceDescription → Option Text → List Edit → Type 0
AreBodyEdits text d None edits = edits ≡ []
AreBodyEdits text d (Some body) edits =
    IsOneEdit text (body_end d.piece d.kind - inside_len text d) (body_end d.piece d.kind) body edits

-- first the edits of the version, then those of the body
abbrev pub AreEdits : Text → SourceDescription → Option ℕ → Option Text → List Edit → Type 0
AreEdits text d digit body edits = (first : List Edit) × (second : List Edit)
    × AreVersionEdits text d digit first × AreBodyEdits text d body second × (edits ≡ first ++ second)

-- What a known call takes in place of a text, and isn't looked into: `config.format`, `other::F`, `F[0]`, `concat!(..)`,
-- `"%F".trim()`.
use Rattle.std.specs.Prelude.{ℕ, ◌+◌, ◌-◌, Bool, true, false, not, ◌&&◌, ◌||◌, ◌==◌, if◌then◌else◌, List, [], ◌∷◌, codes, bytes_eq, length}
use Rattle.timefd_lint_scan.specs.declared.piece.PlacedToken.{PlacedToken}
use Rattle.timefd_lint_scan.specs.declared.token.Token.{Token}
use Rattle.timefd_lint_scan.specs.declared.token.Token.TheVariants.{White, Comment, Word, Lifetime, Character, Literal, Sign, Unclosed}
use Rattle.timefd_lint_scan.specs.Bytes.{Text}
use Rattle.timefd_lint_scan.specs.Flows.{is_around_values}
use Rattle.timefd_lint_scan.specs.Values.{ends_value, hands_on, is_begun, is_value}
use Rattle.timefd_lint_scan.specs.Words.{is_closing, is_opening, text_after, text_at, text_of, tokens_after}

-- A word or a literal with these tokens after it isn't the whole value: a field or a method, a path, an index, a sum, `?`.
abbrev pub goes_on : Text → Text → Bool
goes_on after next =
    bytes_eq after (codes ".") || bytes_eq after (codes "[") || bytes_eq after (codes "+") || bytes_eq after (codes "?")
    || (bytes_eq after (codes ":") && bytes_eq next (codes ":"))

-- These macros make a text.
abbrev pub makes_text : Text → Bool
makes_text name =
    bytes_eq name (codes "concat") || bytes_eq name (codes "format") || bytes_eq name (codes "env")
    || bytes_eq name (codes "option_env") || bytes_eq name (codes "include_str")

abbrev pub is_literal : Token → Bool
is_literal White = false
is_literal Comment = false
is_literal Word = false
is_literal Lifetime = false
is_literal Character = false
is_literal (Literal kind) = true
is_literal Sign = false
is_literal Unclosed = false

-- A token is a literal that is looked at, unless a bracket around it hides it.
abbrev pub is_read : Text → List PlacedToken → ℕ → Token → Bool
is_read source ps i token = is_literal token && is_value source ps i

-- What is in a bracket isn't looked at: the bracket doesn't pass on its values, or it is in one that doesn't. So many of
-- those are open around it.
abbrev pub hides : Text → List PlacedToken → ℕ → ℕ → Bool
hides source ps i hiding = not (hiding == 0) || not (is_around_values source ps i)

-- the index of the first of these tokens, which are the last ones
abbrev pub index_of : List PlacedToken → List PlacedToken → ℕ
index_of ps last = length ps - length last

-- A value that these last tokens go on with, up to a comma or to the bracket after it, has no literal that is looked at, and
-- is neither a pattern nor a statement. At the first of the tokens, `depth` brackets of the value are open, the innermost
-- `hiding` of which hide what is in them.
abbrev pub is_bare : Text → List PlacedToken → ℕ → ℕ → List PlacedToken → Bool
is_bare source ps depth hiding [] = true
is_bare source ps depth hiding (p ∷ rest) =
    if hiding == 0 && is_read source ps (index_of ps (p ∷ rest)) p.token then false
    else if is_opening (text_of source p) then
    (if hides source ps (index_of ps (p ∷ rest)) hiding then is_bare source ps (depth + 1) (hiding + 1) rest
    else is_bare source ps (depth + 1) hiding rest)
    else if is_closing (text_of source p) then
    (if depth == 0 then true else is_bare source ps (depth - 1) (hiding - 1) rest)
    else if depth == 0 && bytes_eq (text_of source p) (codes ",") then true
    else if depth == 0 && (bytes_eq (text_of source p) (codes ";") || bytes_eq (text_of source p) (codes "=")) then false
    else is_bare source ps depth hiding rest

-- `self` or `Self` only leads to a name that is used itself: `self.f()`, `Self::F`, `Self::F.as_str()`.
abbrev pub leads_on : Text → List PlacedToken → ℕ → Bool
leads_on source ps i =
    if bytes_eq (text_at source ps i) (codes "self") then bytes_eq (text_after source ps i 3) (codes "(")
    else bytes_eq (text_at source ps i) (codes "Self")
    && (not (goes_on (text_after source ps i 4) (text_after source ps i 5)) || hands_on (text_after source ps i 5))

-- A value goes on after a token that it begins with, and nothing in it is looked at.
abbrev pub goes_on_bare : Text → List PlacedToken → ℕ → Bool
goes_on_bare source ps i =
    goes_on (text_after source ps i 1) (text_after source ps i 2) && is_bare source ps 0 0 (tokens_after ps i)

-- A value begins with this literal, which isn't looked at, as it isn't the whole value: `"%F".trim()`, `"%F" + x`.
abbrev pub is_changed : Text → List PlacedToken → ℕ → Bool
is_changed source ps i = is_begun source ps i && not (ends_value source ps i) && goes_on_bare source ps i

-- A value begins with this word, and nothing in it is looked at.
abbrev pub is_part : Text → List PlacedToken → ℕ → Bool
is_part source ps i =
    is_begun source ps i && not (leads_on source ps i)
    && ((makes_text (text_at source ps i) && bytes_eq (text_after source ps i 1) (codes "!")) || goes_on_bare source ps i)

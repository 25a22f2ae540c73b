-- Which literals of a source may be descriptions: arguments of known calls and of a project's own, and literals for which
-- a comment names a language.
use Rattle.std.specs.Prelude.{ℕ, ◌+◌, Bool, true, false, if◌then◌else◌, List, [], ◌∷◌, ◌++◌, Option, Some, None}
use Rattle.std.specs.List.{flat_map}
use Rattle.std.specs.Option.{option_or, option_to_list}
use Rattle.timefd_lint_scan.specs.declared.alias.Alias.{Alias}
use Rattle.timefd_lint_scan.specs.declared.calls.OpenBracket.{OpenBracket}
use Rattle.timefd_lint_scan.specs.declared.candidate.CandidateLiteral.{CandidateLiteral}
use Rattle.timefd_lint_scan.specs.declared.dialect.FormatLanguage.{FormatLanguage}
use Rattle.timefd_lint_scan.specs.declared.marks.LanguageMark.{LanguageMark}
use Rattle.timefd_lint_scan.specs.declared.own_call.OwnCall.{OwnCall}
use Rattle.timefd_lint_scan.specs.declared.piece.PlacedToken.{PlacedToken}
use Rattle.timefd_lint_scan.specs.declared.known.Items.TheVariants.{Refused}
use Rattle.timefd_lint_scan.specs.declared.known.Known.{Known}
use Rattle.timefd_lint_scan.specs.declared.uses.Use.{Use}
use Rattle.timefd_lint_scan.specs.declared.token.LiteralKind.{LiteralKind}
use Rattle.timefd_lint_scan.specs.declared.token.Token.{Token}
use Rattle.timefd_lint_scan.specs.declared.token.Token.TheVariants.{White, Comment, Word, Lifetime, Character, Literal, Sign, Unclosed}
use Rattle.timefd_lint_scan.specs.declared.version.VersionPosition.TheVariants.{Elsewhere}
use Rattle.timefd_lint_scan.specs.Aliases.{aliases_in}
use Rattle.timefd_lint_scan.specs.Arguments.{reported_in}
use Rattle.timefd_lint_scan.specs.Attributes.{known_by_attribute}
use Rattle.timefd_lint_scan.specs.Bytes.{Text}
use Rattle.timefd_lint_scan.specs.Flows.{outermost, known_of}
use Rattle.timefd_lint_scan.specs.Frames.{innermost, passed}
use Rattle.timefd_lint_scan.specs.Marks.{marks, still_open, reported_at}
use Rattle.timefd_lint_scan.specs.Using.{uses_in}

abbrev pub kind_of : Token → Option LiteralKind
kind_of White = None
kind_of Comment = None
kind_of Word = None
kind_of Lifetime = None
kind_of Character = None
kind_of (Literal kind) = Some kind
kind_of Sign = None
kind_of Unclosed = None

-- neither white nor a comment
abbrev pub is_significant : Token → Bool
is_significant White = false
is_significant Comment = false
is_significant Word = true
is_significant Lifetime = true
is_significant Character = true
is_significant (Literal kind) = true
is_significant Sign = true
is_significant Unclosed = true

abbrev pub kept : PlacedToken → List PlacedToken
kept p = if is_significant p.token then p ∷ [] else []

abbrev pub significant : List PlacedToken → List PlacedToken
significant ps = flat_map kept ps

-- what a comment says about a literal
abbrev pub by_comment : Option FormatLanguage → Option Known
by_comment None = None
by_comment (Some dialect) = Some (record { dialect = dialect; items = Refused; version = Elsewhere; wants_percent = false; call = None })

abbrev pub candidate_from : PlacedToken → Option LiteralKind → Option Known → Option CandidateLiteral
candidate_from p None known = None
candidate_from p (Some kind) None = None
candidate_from p (Some kind) (Some known) = Some (record { piece = p; kind = kind; known = known })

-- A comment that names a language decides first, then the bracket that the literal is in, then what its value
-- is passed to, then its attribute.
abbrev pub candidate_at : Text → List PlacedToken → ℕ → PlacedToken → Option OpenBracket → Option FormatLanguage → Option CandidateLiteral
candidate_at source ps i p frame dialect =
    candidate_from p (kind_of p.token)
    (option_or (option_or (option_or (by_comment dialect) (reported_in source ps i frame)) (known_of source ps i frame))
    (known_by_attribute source ps i))

-- the candidates among the tokens from an index on, with these open brackets and these comments that name a
-- language
abbrev pub candidates_from : Text → List PlacedToken → List Alias → List OwnCall → List Use → ℕ → List PlacedToken → List OpenBracket → List LanguageMark
    → List CandidateLiteral
candidates_from source ps aliases own us i [] frames comments = []
candidates_from source ps aliases own us i (p ∷ rest) frames comments =
    option_to_list (candidate_at source ps i p (innermost (passed source ps aliases own us i frames))
    (reported_at (still_open p.start comments) p.start))
    ++ candidates_from source ps aliases own us (i + 1) rest (passed source ps aliases own us i frames)
    (still_open p.start comments)

abbrev pub candidates_by : Text → List PlacedToken → List Alias → List OwnCall → List Use → List LanguageMark → List CandidateLiteral
candidates_by source ps aliases own us comments = candidates_from source ps aliases own us 0 ps (outermost ∷ []) comments

abbrev pub candidates_in : Text → List OwnCall → List PlacedToken → List LanguageMark → List CandidateLiteral
candidates_in source own ps comments =
    candidates_by source ps (aliases_in source own ps) own (uses_in source ps (aliases_in source own ps) own) comments

-- the candidates of a source that is cut into these tokens, with these calls of its project
abbrev pub candidates : Text → List OwnCall → List PlacedToken → List CandidateLiteral
candidates source own all = candidates_in source own (significant all) (marks source all)

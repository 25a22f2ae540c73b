-- How the code's verdict on a head by itself relates to the rules.
use Rattle.std.specs.Prelude.{ℕ, ◌≡◌, ◌==◌, Bool, true, false, not, codes, List, [], ◌∷◌, ◌++◌, length, Option, Some, None, Result, Ok, Err, MatchResult}
use Rattle.std.specs.Borrow.{Bor}
use Rattle.std.specs.Str.{IsUtf8}
use Rattle.timefd_lang_component.specs.Modern.{modern}
use Rattle.timefd_lang_component.specs.Tree.{Text, Tree, component}
use Rattle.timefd_lang_fault.specs.Faults.{Fault}
use Rattle.timefd_language.specs.declared.description_version.DescriptionVersion.{DescriptionVersion}
use Rattle.timefd_lang_fault.specs.declared.read_error.Fault as code_fault
use Rattle.timefd_lang_fault.specs.declared.name.Name.{Name}
use Rattle.timefd_lang_fault.specs.declared.name.Name.TheVariants as names
use Rattle.timefd_parse.specs.declared.head.verdict.HeadVerdict.{HeadVerdict}
use Rattle.timefd_parse.specs.declared.head.verdict.HeadVerdict.TheVariants as verdicts
use Rattle.timefd_parse.specs.declared.head.verdict.JudgedHead.{JudgedHead}
use Rattle.timefd_language.specs.Broken.{BeginsNoEscape}
use Rattle.timefd_language.specs.Bytes.{left, is_white, is_word_byte, ZeroOrMore, StopsBefore}
use Rattle.timefd_lang_fault.specs.ReadErrors.{IsFault}
use Rattle.timefd_language.specs.FaultMeaning.{IsFaultAt}
use Rattle.timefd_language.specs.Head.{Head, IsHead, head_text, placed}
use Rattle.timefd_language.specs.Values.{format}
use Rattle.timefd_language.specs.Verdict.{PlacedDescription, ◌or◌, touching, nested_refused, after, bad_modifiers, is_formatted, optional_verdict, first_verdict, verdict}

-- whether nested descriptions may follow a name
abbrev pub nests : Option Name → Bool
nests (Some names.Optional) = true
nests (Some names.First) = true
nests (Some (names.Component n)) = false
nests None = false

abbrev pub refused_unless : Bool → List PlacedDescription → Option Fault
refused_unless true parts = None
refused_unless false parts = nested_refused parts

-- the fault of nested descriptions where they may not be
abbrev pub placing : Bool → List PlacedDescription → Option Fault
placing nests parts = touching parts or refused_unless nests parts

-- if its nested descriptions are where they may be, a bracket with this head is decided by this
abbrev pub Decides : Bool → Head → Bool → (List PlacedDescription → ℕ → Result Tree Fault) → Type 0
Decides strict h nests by =
    (parts : List PlacedDescription) (position : ℕ)
    → verdict strict h parts position ≡ after (placing nests parts) (by parts position)

-- The verdict is the one of the rules on a head in a text with this many bytes; the head says
-- whether nested descriptions may follow it.
abbrev pub IsVerdict : Bool → ℕ → Head → Bool → HeadVerdict → Type 0
IsVerdict strict total h nests (verdicts.Component c) =
    (nests ≡ false) × (modern c ≡ c) × Decides strict h nests (λ parts position. Ok (component c))
IsVerdict strict total h nests (verdicts.Optional formatted) =
    (bad_modifiers strict (format ∷ []) [] (placed h) ≡ None)
    × (formatted ≡ is_formatted strict (placed h))
    × Decides strict h nests (optional_verdict strict h)
IsVerdict strict total h nests verdicts.First = (bad_modifiers strict [] [] (placed h) ≡ None)
    × Decides strict h nests (first_verdict strict h)
IsVerdict strict total h nests (verdicts.Refused f) =
    (g : Fault) × IsFault total f g × Decides strict h nests (λ parts position. Err g)

-- the text begins with this head, which was judged, and white bytes
pub record BeginsWithJudged (strict : Bool) (text : Text) (judged : JudgedHead) (rest : Text)
    (h : Head) : Type 0 where
  pub white : Text
  pub is : IsHead h
  pub verdict : IsVerdict strict (length text) h judged.nests judged.verdict
  pub whole : text ≡ head_text h ++ white ++ rest
  pub all_white : ZeroOrMore is_white white
  pub stops_white : StopsBefore is_white rest
  pub stops_word : StopsBefore is_word_byte rest
  pub spaced : judged.spaced ≡ not (length white == 0)

-- the text after a `[` begins with a judged head
abbrev pub BeginsJudged : Bool → Text → JudgedHead → Text → Type 0
BeginsJudged strict inside judged rest =
    ((h : Head) × BeginsWithJudged strict (left ∷ inside) judged rest h) × IsUtf8 rest

-- a judged head, or the fault of a bracket without a head
abbrev pub ReadsJudgedHead : Bool → Text → Result (JudgedHead × Bor (List ℕ)) code_fault.Fault
    → Type 0
ReadsJudgedHead strict inside r =
    MatchResult r
    (λ x. BeginsJudged strict inside x.0 x.1.now)
    (λ f. (v : DescriptionVersion) (limit n : ℕ) → BeginsNoEscape v inside
    → IsFaultAt v limit n (left ∷ inside) f)

-- the word and a space, and what the word makes a head without modifiers
abbrev pub IsPlain : Text → HeadVerdict → Type 0
IsPlain word (verdicts.Optional formatted) =
    (word ≡ codes "optional" ++ 32 ∷ []) × (formatted ≡ true)
IsPlain word verdicts.First = word ≡ codes "first" ++ 32 ∷ []
IsPlain word (verdicts.Component c) = ⊥
IsPlain word (verdicts.Refused f) = ⊥

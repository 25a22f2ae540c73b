-- A source whose descriptions are fixed or converted.
use Rattle.std.specs.Prelude.{ℕ, ◌≡◌, ◌≢◌, ◌+◌, Bool, true, false, ◌==◌, ◌⊎◌, List, [], ◌∷◌, ◌++◌, codes, count_by, drop, Option, None, Some, IsUtf8, IsTrue, IsFalse, ⊤}
use Rattle.std.specs.declared.alloc.Global.{Global}
use Rattle.std.specs.declared.vec.Vec.{Vec}
use Rattle.timefd_parse.specs.Tree.{Text}
use Rattle.timefd_parse.specs.Faults.{Fault}
use Rattle.timefd_language.specs.declared.description_version.DescriptionVersion.{DescriptionVersion}
use Rattle.timefd_lint_rewrite.specs.declared.layout.Layout.{Layout}
use Rattle.timefd_lint_rewrite.specs.Layouts.{IsConverted, IsRefusedFor}
use Rattle.timefd_lint_scan.specs.declared.description.SourceDescription.{SourceDescription}
use Rattle.timefd_lint_scan.specs.declared.own_call.OwnCall.{OwnCall}
use Rattle.timefd_lint_scan.specs.declared.version.VersionPosition.{VersionPosition}
use Rattle.timefd_lint_scan.specs.declared.version.VersionPosition.TheVariants.{Digit, Unsaid, Call, Elsewhere}
use Rattle.timefd_lint_scan.specs.DocLooks.{AreDescriptionsOf}
use Rattle.timefd_lint_scan.specs.Found.{AllStandIn, AreInOrder}
use Rattle.timefd_lint_scan.specs.Literals.{body_end, inside}
use Rattle.timefd_lint_scan.specs.Versions.{digit_of}
use Rattle.timefd_lint_scan.specs.Written.{IsBodyFor, has_body}
use Rattle.timefd_lint_sources.specs.Items.{HoldsItem, taking}
use Rattle.timefd_lint_sources.specs.Judged.{text_of}
use Rattle.timefd_lint_sources.specs.declared.rewriting.answer.Answer.{Answer}
use Rattle.timefd_lint_sources.specs.declared.rewriting.answer.Answer.TheVariants.{Stays, Becomes}
use Rattle.timefd_lint_sources.specs.declared.rewriting.change.Change.{Change}
use Rattle.timefd_lint_sources.specs.declared.rewriting.source.NewSource.{NewSource}
use Rattle.timefd_lint_sources.specs.declared.rewriting.outcome.Outcome.{Outcome}
use Rattle.timefd_lint_sources.specs.declared.rewriting.outcome.Outcome.TheVariants.{PassedOver, Same, Rewritten, Refused, WithItems, NotText, NotALiteral, ByHand}
use Rattle.timefd_lint_sources.specs.Rewriting.Aside.{IsConvertedAround}
use Rattle.timefd_lint_sources.specs.Rewriting.Changes.{layout_of, new_digit}

abbrev pub is_rewriting : Outcome → Bool
is_rewriting PassedOver = false
is_rewriting Same = false
is_rewriting Rewritten = true
is_rewriting Refused = false
is_rewriting WithItems = false
is_rewriting NotText = false
is_rewriting NotALiteral = false
is_rewriting ByHand = false

abbrev pub is_refusing : Outcome → Bool
is_refusing PassedOver = false
is_refusing Same = false
is_refusing Rewritten = false
is_refusing Refused = true
is_refusing WithItems = false
is_refusing NotText = true
is_refusing NotALiteral = true
is_refusing ByHand = false

-- the number of line ends in a text
abbrev pub line_ends : Text → ℕ
line_ends text = count_by (λ b. b == 10) text

abbrev pub line_ends_in : Option Text → ℕ
line_ends_in None = 0
line_ends_in (Some text) = line_ends text

-- the number of line ends between the quotes of a description's literal
abbrev pub old_line_ends : Text → SourceDescription → ℕ
old_line_ends source d = line_ends_in (inside source d.piece d.kind)

-- how this description is laid out
abbrev pub IsLaidOutBy : Change → SourceDescription → Layout → Type 0
IsLaidOutBy change d layout = layout_of change d.dialect (text_of d) ≡ Some layout

-- The text is converted to the answer, or fixed, in the language of the description; or, if its place takes items, converted
-- with its items set aside.
abbrev pub BecomesBy : Layout → SourceDescription → Text → Type 0
BecomesBy layout d answer = IsConverted layout (text_of d) answer
    ⊎ ((v : DescriptionVersion) × (taking d.items d.dialect ≡ Some v) × IsConvertedAround v layout (text_of d) answer)

pub record Becoming (change : Change) (d : SourceDescription) (answer : Text) : Type 0 where
  pub layout : Layout
  pub chosen : IsLaidOutBy change d layout
  pub converted : BecomesBy layout d answer

-- A literal of the description's kind has no body for the answer, or one that has more or fewer lines.
abbrev pub IsUnwritable : Text → SourceDescription → Text → Type 0
IsUnwritable source d answer = IsFalse (has_body d.kind answer)
    ⊎ ((body : Text) × IsBodyFor d.kind answer body × (line_ends body ≢ old_line_ends source d))

-- whether a number can say the version there
abbrev pub can_say : VersionPosition → Bool
can_say (Digit at) = true
can_say Unsaid = true
can_say Call = false
can_say Elsewhere = false

-- whether there is a place for the new digit, if the version changes
abbrev pub is_sayable : VersionPosition → Option ℕ → Bool
is_sayable position None = true
is_sayable position (Some digit) = can_say position

-- If the text changes, the literal has a new body with as many line ends, and otherwise its own.
abbrev pub IsBodyOf : Text → SourceDescription → Text → Option Text → Type 0
IsBodyOf source d answer None = answer ≡ text_of d
IsBodyOf source d answer (Some body) =
    (answer ≢ text_of d) × IsBodyFor d.kind answer body × (line_ends body ≡ old_line_ends source d)

-- a new digit, or another body
abbrev pub IsChange : Option ℕ → Option Text → Type 0
IsChange None None = ⊥
IsChange None (Some body) = ⊤
IsChange (Some digit) None = ⊤
IsChange (Some digit) (Some body) = ⊤

-- A description is rewritten together with its version, by this digit and this body.
pub record IsRewritten (change : Change) (source : Text) (d : SourceDescription) (digit : Option ℕ) (body : Option Text)
    : Type 0 where
  pub answer : Text
  pub becoming : Becoming change d answer
  pub version : digit ≡ new_digit change d.dialect
  pub sayable : IsTrue (is_sayable d.version digit)
  pub body_of : IsBodyOf source d answer body
  pub changes : IsChange digit body

-- The description has an item that `parse` refuses and that its place takes.
abbrev pub HasItem : SourceDescription → Type 0
HasItem d = HoldsItem (taking d.items d.dialect) (text_of d)

-- The outcome of a description, and its new digit and body if it is rewritten.
abbrev pub IsOutcome : Change → Text → SourceDescription → Outcome → Option ℕ → Option Text → Type 0
IsOutcome change source d PassedOver digit body = layout_of change d.dialect (text_of d) ≡ None
IsOutcome change source d Same digit body = Becoming change d (text_of d) × (new_digit change d.dialect ≡ None)
IsOutcome change source d Rewritten digit body = IsRewritten change source d digit body
IsOutcome change source d Refused digit body = IsUtf8 (text_of d)
    × ((layout : Layout) × IsLaidOutBy change d layout × ((f : Fault) × IsRefusedFor layout (text_of d) f))
    × (HasItem d → ⊥)
IsOutcome change source d WithItems digit body = HasItem d
IsOutcome change source d NotText digit body = (¬ IsUtf8 (text_of d)) × ((layout : Layout) × IsLaidOutBy change d layout)
IsOutcome change source d NotALiteral digit body =
    (answer : Text) × Becoming change d answer × (answer ≢ text_of d) × IsUnwritable source d answer
IsOutcome change source d ByHand digit body = ((answer : Text) × Becoming change d answer)
    × IsFalse (is_sayable d.version (new_digit change d.dialect))

abbrev pub items_of : Option (Vec ℕ Global) → Option Text
items_of None = None
items_of (Some body) = Some body.items

abbrev pub IsAnswer : Change → Text → SourceDescription → Answer → Type 0
IsAnswer change source d (Stays o) = (is_rewriting o ≡ false) × IsOutcome change source d o None None
IsAnswer change source d (Becomes rewritten) = IsRewritten change source d rewritten.digit (items_of rewritten.body)

-- What is written for a source from a position on, up to the closing quote of a description: what precedes
-- its literal's body, and then the new body.
pub record IsReplaced (source : Text) (from : ℕ) (d : SourceDescription) (body front : Text) (next : ℕ) : Type 0 where
  pub kept : Text
  pub old : Text
  pub is_inside : inside source d.piece d.kind ≡ Some old
  pub at_quote : next ≡ body_end d.piece d.kind
  pub cut : drop from source ≡ kept ++ (old ++ drop next source)
  pub written : front ≡ kept ++ body

-- Nothing is written yet if the body stays.
abbrev pub IsRespelled : Text → ℕ → SourceDescription → Option Text → Text → ℕ → Type 0
IsRespelled source from d None front next = (front ≡ []) × (next ≡ from)
IsRespelled source from d (Some body) front next = IsReplaced source from d body front next

-- What is written up to a position: what precedes these bytes, and then the new bytes instead of them.
pub record IsSpliced (source : Text) (from : ℕ) (old new front : Text) (next : ℕ) : Type 0 where
  pub kept : Text
  pub cut : drop from source ≡ kept ++ (old ++ drop next source)
  pub written : front ≡ kept ++ new

-- what says a version before a literal
abbrev pub argument : ℕ → Text
argument digit = codes "version = " ++ (digit ∷ codes ", ")

-- The description's version has a new digit, or is said where it wasn't.
abbrev pub IsNewVersion : Text → ℕ → SourceDescription → VersionPosition → ℕ → Text → ℕ → Type 0
IsNewVersion source from d (Digit at) digit front next = (next ≡ at + 1) × ((old : ℕ)
    × (digit_of d.dialect ≡ Some old) × IsSpliced source from (old ∷ []) (digit ∷ []) front next)
IsNewVersion source from d Unsaid digit front next = (next ≡ d.piece.start)
    × IsSpliced source from [] (argument digit) front next
IsNewVersion source from d Call digit front next = ⊥
IsNewVersion source from d Elsewhere digit front next = ⊥

-- Nothing is written yet if the version stays.
abbrev pub IsRenumbered : Text → ℕ → SourceDescription → Option ℕ → Text → ℕ → Type 0
IsRenumbered source from d None front next = (front ≡ []) × (next ≡ from)
IsRenumbered source from d (Some digit) front next = IsNewVersion source from d d.version digit front next

-- First the version, and then the body.
pub record IsPut (source : Text) (from : ℕ) (d : SourceDescription) (digit : Option ℕ) (body : Option Text)
    (front : Text) (next : ℕ) : Type 0 where
  pub first : Text
  pub middle : ℕ
  pub second : Text
  pub renumbered : IsRenumbered source from d digit first middle
  pub respelled : IsRespelled source middle d body second next
  pub whole : front ≡ first ++ second

-- Nothing is written yet if the literal stays.
abbrev pub IsPlaced : Text → ℕ → SourceDescription → Outcome → Option ℕ → Option Text → Text → ℕ → Type 0
IsPlaced source from d PassedOver digit body front next = (front ≡ []) × (next ≡ from)
IsPlaced source from d Same digit body front next = (front ≡ []) × (next ≡ from)
IsPlaced source from d Rewritten digit body front next = IsPut source from d digit body front next
IsPlaced source from d Refused digit body front next = (front ≡ []) × (next ≡ from)
IsPlaced source from d WithItems digit body front next = (front ≡ []) × (next ≡ from)
IsPlaced source from d NotText digit body front next = (front ≡ []) × (next ≡ from)
IsPlaced source from d NotALiteral digit body front next = (front ≡ []) × (next ≡ from)
IsPlaced source from d ByHand digit body front next = (front ≡ []) × (next ≡ from)

-- What is written for a source from a position on: each of these descriptions that is rewritten has
-- another version or another body between its quotes, and every other byte is the source's.
abbrev pub AreRewritten : Change → Text → ℕ → List SourceDescription → List Outcome → Text → Type 0
AreRewritten change source from [] [] new = new ≡ drop from source
AreRewritten change source from [] (o ∷ os) new = ⊥
AreRewritten change source from (d ∷ ds) [] new = ⊥
AreRewritten change source from (d ∷ ds) (o ∷ os) new = (digit : Option ℕ) × (body : Option Text) × (front : Text)
    × (next : ℕ) × (rest : Text)
    × IsOutcome change source d o digit body × IsPlaced source from d o digit body front next
    × AreRewritten change source next ds os rest × (new ≡ front ++ rest)

-- A source with these calls of its project, whose descriptions are all rewritten. They are in it one after another.
pub record IsSourceRewritten (change : Change) (source : Text) (own : List OwnCall) (new : NewSource) : Type 0 where
  pub descriptions : List SourceDescription
  pub all : AreDescriptionsOf source own descriptions
  pub stand : AllStandIn source descriptions
  pub in_order : AreInOrder 0 descriptions
  pub rewritten : AreRewritten change source 0 descriptions new.outcomes.items new.bytes.items

-- the new body, after what is written so far
abbrev pub Replaces : Text → SourceDescription → ℕ → Text → Text → Text → ℕ → Type 0
Replaces source d from body bytes bytes' next =
    (front : Text) × IsReplaced source from d body front next × (bytes' ≡ bytes ++ front)

-- the version and the body, after what is written so far
abbrev pub Puts : Text → SourceDescription → ℕ → Option ℕ → Option Text → Text → Text → ℕ → Type 0
Puts source d from digit body bytes bytes' next =
    (front : Text) × IsPut source from d digit body front next × (bytes' ≡ bytes ++ front)

-- the version, after what is written so far
abbrev pub Renumbers : Text → SourceDescription → ℕ → Option ℕ → Text → Text → ℕ → Type 0
Renumbers source d from digit bytes bytes' next =
    (front : Text) × IsRenumbered source from d digit front next × (bytes' ≡ bytes ++ front)

-- The outcome of one more description, and what is written for the source up to it.
pub record AddsRewritten (change : Change) (source : Text) (d : SourceDescription) (from : ℕ)
    (outcomes : List Outcome) (bytes : Text) (outcomes' : List Outcome) (bytes' : Text) (next : ℕ)
    : Type 0 where
  pub outcome : Outcome
  pub digit : Option ℕ
  pub body : Option Text
  pub front : Text
  pub is : IsOutcome change source d outcome digit body
  pub placed : IsPlaced source from d outcome digit body front next
  pub more_outcomes : outcomes' ≡ outcomes ++ (outcome ∷ [])
  pub more_bytes : bytes' ≡ bytes ++ front

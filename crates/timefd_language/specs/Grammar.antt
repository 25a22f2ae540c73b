-- The texts that spell a list of trees.
use Rattle.std.specs.Prelude.{ℕ, suc, ◌≡◌, ◌+◌, ◌<◌, Bool, true, false, not, List, [], ◌∷◌, ◌++◌, length, Result, Ok, IsTrue, IsFalse, ⊤}
use Rattle.timefd_language.specs.declared.description_version.DescriptionVersion.{DescriptionVersion}
use Rattle.timefd_language.specs.declared.description_version.DescriptionVersion.TheVariants.{One, Two, Three}
use Rattle.timefd_lang_component.specs.Tree.{Text, Tree, literal}
use Rattle.timefd_language.specs.Bytes.{left, backslash, right, is_white, is_special, is_run_byte, is_version_three, ZeroOrMore, OneOrMore}
use Rattle.timefd_lang_fault.specs.Faults.{Fault}
use Rattle.timefd_language.specs.Head.{Head, IsHead, head_text}
use Rattle.timefd_language.specs.Verdict.{PlacedDescription, verdict}

-- A text in pieces. A piece is a run of bytes, an escape of two bytes, a `]`, or a bracket. A bracket
-- has a head, nested descriptions, white bytes and `]`, and means one tree.
mutual
  pub data Pieces : Type 0 where
    no_pieces : Pieces
    run : Text → Pieces → Pieces
    escape : ℕ → ℕ → Pieces → Pieces
    closing : Pieces → Pieces
    bracket : Head → Nested → Text → Tree → Pieces → Pieces

  -- nested descriptions: white bytes, `[`, pieces, `]`
  pub data Nested : Type 0 where
    no_nested : Nested
    nested : Text → Pieces → Nested → Nested

-- the bytes of the pieces
abbrev mutual
  pub spelling : Pieces → Text
  spelling no_pieces = []
  spelling (run bytes rest) = bytes ++ spelling rest
  spelling (escape a b rest) = a ∷ b ∷ spelling rest
  spelling (closing rest) = right ∷ spelling rest
  spelling (bracket h ns white tree rest) =
      head_text h ++ nested_text ns ++ white ++ right ∷ spelling rest

  pub nested_text : Nested → Text
  nested_text no_nested = []
  nested_text (nested white ps ns) = white ++ left ∷ spelling ps ++ right ∷ nested_text ns

-- the trees that the pieces mean
abbrev pub items : Pieces → List Tree
items no_pieces = []
items (run bytes rest) = literal bytes ∷ items rest
items (escape a b rest) = literal (b ∷ []) ∷ items rest
items (closing rest) = literal (right ∷ []) ∷ items rest
items (bracket h ns white tree rest) = tree ∷ items rest

abbrev pub is_empty : Text → Bool
is_empty [] = true
is_empty (b ∷ bytes) = false

-- the nested descriptions, the first of them at byte k, as the verdict sees them
abbrev pub parts_from : ℕ → Nested → List PlacedDescription
parts_from k no_nested = []
parts_from k (nested white ps ns) =
    record { spaced = not (is_empty white); index = k + length white; trees = items ps }
    ∷ parts_from (k + length white + 1 + length (spelling ps) + 1) ns

-- the verdict on a bracket
abbrev pub bracket_verdict : DescriptionVersion → Head → Nested → Text → Result Tree Fault
bracket_verdict v h ns white =
    verdict (is_version_three v) h (parts_from (length (head_text h)) ns)
    (length (head_text h ++ nested_text ns ++ white))

abbrev pub IsEscape : DescriptionVersion → ℕ → ℕ → Type 0
IsEscape One a b = (a ≡ left) × (b ≡ left)
IsEscape Two a b = (a ≡ backslash) × IsTrue (is_special b)
IsEscape Three a b = (a ≡ backslash) × IsTrue (is_special b)

abbrev pub BeginsNoRun : Pieces → Type 0
BeginsNoRun (run bytes rest) = ⊥
BeginsNoRun no_pieces = ⊤
BeginsNoRun (escape a b rest) = ⊤
BeginsNoRun (closing rest) = ⊤
BeginsNoRun (bracket h ns white tree rest) = ⊤

-- how deeply descriptions may be nested
abbrev pub nesting_limit : ℕ
nesting_limit = 127

-- These are pieces of the version, inside of n nested descriptions. Descriptions may be nested at
-- most limit deep.
abbrev mutual
  pub ArePieces : DescriptionVersion → ℕ → ℕ → Pieces → Type 0
  ArePieces v limit n no_pieces = ⊤
  ArePieces v limit n (run bytes rest) =
      OneOrMore (is_run_byte v) bytes × BeginsNoRun rest × ArePieces v limit n rest
  ArePieces v limit n (escape a b rest) = IsEscape v a b × ArePieces v limit n rest
  ArePieces v limit n (closing rest) = IsFalse (is_version_three v) × (n ≡ 0)
      × ArePieces v limit n rest
  ArePieces v limit n (bracket h ns white tree rest) =
      IsHead h × AreNested v limit n ns × ZeroOrMore is_white white
      × (bracket_verdict v h ns white ≡ Ok tree) × ArePieces v limit n rest

  pub AreNested : DescriptionVersion → ℕ → ℕ → Nested → Type 0
  AreNested v limit n no_nested = ⊤
  AreNested v limit n (nested white ps ns) =
      ZeroOrMore is_white white × (n < limit) × ArePieces v limit (suc n) ps
      × AreNested v limit n ns

-- The text, inside of n nested descriptions, spells the list.
abbrev pub Spells : DescriptionVersion → ℕ → ℕ → Text → List Tree → Type 0
Spells v limit n text list =
    (ps : Pieces) × ArePieces v limit n ps × (text ≡ spelling ps) × (list ≡ items ps)

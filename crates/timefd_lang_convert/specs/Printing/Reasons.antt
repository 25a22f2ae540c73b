-- Why no text of version 3 spells a tree: the first reason from the left, if there is one.
use Rattle.std.specs.Prelude.{ℕ, ◌-◌, ◌==◌, Bool, true, false, not, if◌then◌else◌, [], ◌∷◌, Option, Some, None, ⊤}
use Rattle.std.specs.List.{list_all}
use Rattle.timefd_lang_component.specs.declared.component.Component.{Component}
use Rattle.timefd_lang_component.specs.Equality.{same_component}
use Rattle.timefd_lang_component.specs.Modern.{modern}
use Rattle.timefd_lang_component.specs.Tree.{Text, Tree, component, literal, compound, optional, first, Trees, no_trees, more_trees}
use Rattle.timefd_language.specs.declared.description_version.DescriptionVersion.TheVariants.{Three}
use Rattle.timefd_language.specs.Bytes.{is_special, is_run_byte}
use Rattle.timefd_lift.specs.Plain.{IsCounted}
use Rattle.timefd_lang_convert.specs.declared.printing.error.Unspelled.{Unspelled}
use Rattle.timefd_lang_convert.specs.declared.printing.error.Unspelled.TheVariants.{TooDeep, InnerCompound, LoneMember, NoAlternative, EmptyLiteral, MixedLiteral, NeighbouringLiterals, DeprecatedComponent}

-- the first of two
infixr 20 ◌or◌
abbrev pub ◌or◌ : Option Unspelled → Option Unspelled → Option Unspelled
(Some reason) or other = Some reason
None or other = other

-- one byte, which is escaped
abbrev pub is_escape : Text → Bool
is_escape [] = false
is_escape (b ∷ []) = is_special b
is_escape (b ∷ c ∷ bytes) = false

-- bytes of which none is escaped
abbrev pub is_plain : Text → Bool
is_plain = list_all (is_run_byte Three)

-- whether another run may not follow the tree
abbrev pub is_run : Tree → Bool
is_run (component c) = false
is_run (literal bytes) = not (is_escape bytes)
is_run (compound ts) = false
is_run (optional format t) = false
is_run (first ts) = false

abbrev pub literal_reason : Bool → Text → Option Unspelled
literal_reason after_run [] = Some EmptyLiteral
literal_reason after_run (b ∷ bytes) =
    if is_escape (b ∷ bytes) then None
    else if not (is_plain (b ∷ bytes)) then Some MixedLiteral
    else if after_run then Some NeighbouringLiterals
    else None

abbrev pub component_reason : Component → Option Unspelled
component_reason c = if same_component (modern c) c then None else Some DeprecatedComponent

-- inside of a nested description, if descriptions may be nested this deep
abbrev pub deeper : ℕ → Option Unspelled → Option Unspelled
deeper left reason = if left == 0 then Some TooDeep else reason

abbrev pub is_one : Trees → Bool
is_one no_trees = false
is_one (more_trees t no_trees) = true
is_one (more_trees t (more_trees u ts)) = false

abbrev pub is_none : Trees → Bool
is_none no_trees = true
is_none (more_trees t ts) = false

abbrev mutual
  -- descriptions may be nested this deep in this one
  pub reason : ℕ → Tree → Option Unspelled
  reason left (component c) = component_reason c
  reason left (literal bytes) = literal_reason false bytes
  reason left (compound ts) = if is_one ts then Some LoneMember else members_reason left false ts
  reason left (optional format t) = deeper left (reason (left - 1) t)
  reason left (first ts) = if is_none ts then Some NoAlternative else nested_reason left ts

  -- members one after another, after a run of bytes or not
  pub members_reason : ℕ → Bool → Trees → Option Unspelled
  members_reason left after_run no_trees = None
  members_reason left after_run (more_trees t ts) =
      member_reason left after_run t or members_reason left (is_run t) ts

  pub member_reason : ℕ → Bool → Tree → Option Unspelled
  member_reason left after_run (component c) = component_reason c
  member_reason left after_run (literal bytes) = literal_reason after_run bytes
  member_reason left after_run (compound ts) = Some InnerCompound
  member_reason left after_run (optional format t) = deeper left (reason (left - 1) t)
  member_reason left after_run (first ts) =
      if is_none ts then Some NoAlternative else nested_reason left ts

  -- alternatives, each nested by itself
  pub nested_reason : ℕ → Trees → Option Unspelled
  nested_reason left no_trees = None
  nested_reason left (more_trees t ts) = deeper left (reason (left - 1) t) or nested_reason left ts

-- Each count fits 16 bits, as every count of the code does.
abbrev mutual
  pub HasCounts : Tree → Type 0
  HasCounts (component c) = IsCounted c
  HasCounts (literal bytes) = ⊤
  HasCounts (compound ts) = HaveCounts ts
  HasCounts (optional format t) = HasCounts t
  HasCounts (first ts) = HaveCounts ts

  pub HaveCounts : Trees → Type 0
  HaveCounts no_trees = ⊤
  HaveCounts (more_trees t ts) = HasCounts t × HaveCounts ts

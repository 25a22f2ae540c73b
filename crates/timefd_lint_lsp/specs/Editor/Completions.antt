-- The words that may be written at a cursor in a description.
use Rattle.std.specs.Prelude.{ℕ, ◌≡◌, ◌⊎◌, Bool, ◌&&◌, nat_le, List, [], ◌∷◌, length, Option, Some, None, take, drop, if◌then◌else◌, IsUtf8}
use Rattle.std.specs.Str.{IsCharBoundary}
use Rattle.timefd_parse.specs.Tree.{Text}
use Rattle.timefd_lang_fault.specs.declared.rule.Slot.{Slot}
use Rattle.timefd_lint_diagnosis.specs.Words.{texts}
use Rattle.timefd_language.specs.Bytes.{is_version_three}
use Rattle.timefd_language.specs.declared.description_version.DescriptionVersion.{DescriptionVersion}
use Rattle.timefd_language.specs.declared.description_version.Language.{Language}
use Rattle.timefd_language.specs.declared.description_version.Language.TheVariants.{Version, Strftime}
use Rattle.timefd_lint_sources.specs.declared.reported.SourceText.{SourceText}
use Rattle.timefd_lint_sources.specs.Judged.{language_in, text_of}
use Rattle.timefd_lint_sources.specs.Reported.{AllFound, AreAllOf}
use Rattle.timefd_lint_lsp.specs.declared.editor.completing.Completion.{Completion}
use Rattle.timefd_lint_lsp.specs.Editor.Cursors.{bytes_before, word_start}
use Rattle.timefd_lint_lsp.specs.Editor.Offered.{Around, offered}
use Rattle.timefd_lint_lsp.specs.Editor.OpenSlots.{IsOpenSlot}
use Rattle.timefd_lint_lsp.specs.Editor.Positions.{range_of}
use Rattle.timefd_lint_scan.specs.declared.description.SourceDescription.{SourceDescription}
use Rattle.timefd_lint_scan.specs.declared.piece.PlacedToken.{PlacedToken}
use Rattle.timefd_lint_scan.specs.Found.{AreInOrder, index_in_source}

-- The words are those that are offered, and replace the word that is begun, from its first byte up to the cursor.
pub record IsCompletion (document : Text) (d : SourceDescription) (a : Around) (index : ℕ) (c : Completion) : Type 0 where
  pub range : c.range ≡ range_of document (index_in_source d (length a.before)) index
  pub slot : c.slot ≡ a.slot
  pub words : texts c.words.items ≡ offered a

-- the word that is begun between two parts of a description
abbrev pub begun : DescriptionVersion → Slot → Text → Text → Around
begun v slot front after = record {
  strict = is_version_three v;
  slot = slot;
  before = take (word_start front) front;
  word = drop (word_start front) front;
  after = after;
}

-- If it is known what the word is, words are offered.
abbrev pub IsCompletedBy : Text → SourceDescription → DescriptionVersion → Option Slot → Text → Text → ℕ → Option Completion
    → Type 0
IsCompletedBy document d v None front after index found = found ≡ None
IsCompletedBy document d v (Some slot) front after index None = ⊥
IsCompletedBy document d v (Some slot) front after index (Some c) =
    IsCompletion document d (begun v slot front after) index c

-- between two parts of a description
abbrev pub IsCompletedFrom : Text → SourceDescription → DescriptionVersion → Text → Text → ℕ → Option Completion → Type 0
IsCompletedFrom document d v front after index found = (slot : Option Slot)
    × IsOpenSlot v (take (word_start front) front) slot
    × IsCompletedBy document d v slot front after index found

-- after so many bytes of a description: nothing inside of a character
abbrev pub IsCompletedOver : Text → SourceDescription → DescriptionVersion → Text → ℕ → ℕ → Option Completion → Type 0
IsCompletedOver document d v text at index found =
    ((IsCharBoundary text at → ⊥) × (found ≡ None))
    ⊎ (IsCharBoundary text at × IsCompletedFrom document d v (take at text) (drop at text) index found)

abbrev pub IsCompletedWith : Option ℕ → Text → SourceDescription → DescriptionVersion → ℕ → Option Completion → Type 0
IsCompletedWith None document d v index found = found ≡ None
IsCompletedWith (Some at) document d v index found =
    ((IsUtf8 (text_of d) → ⊥) × (found ≡ None))
    ⊎ (IsUtf8 (text_of d) × IsCompletedOver document d v (text_of d) at index found)

-- at an index of the document, in a description of a version
abbrev pub IsCompletedIn : Text → SourceDescription → DescriptionVersion → ℕ → Option Completion → Type 0
IsCompletedIn document d v index found = IsCompletedWith (bytes_before d index) document d v index found

-- Strftime has no brackets, and all other formats have none either.
abbrev pub IsCompletedAs : Language → Text → SourceDescription → ℕ → Option Completion → Type 0
IsCompletedAs (Version v) document d index found = IsCompletedIn document d v index found
IsCompletedAs Strftime document d index found = found ≡ None

abbrev pub IsCompletedOn : Text → SourceDescription → ℕ → Option Completion → Type 0
IsCompletedOn document d index found = IsCompletedAs (language_in d) document d index found

-- whether a literal covers an index of its document, or ends there
abbrev pub touches : PlacedToken → ℕ → Bool
touches p index = nat_le p.start index && nat_le index p.end

-- the first description whose literal covers the index or ends there
abbrev pub first_touched : List SourceDescription → ℕ → Option SourceDescription
first_touched [] index = None
first_touched (d ∷ ds) index = if touches d.piece index then Some d else first_touched ds index

abbrev pub IsCompletedOfAny : Text → Option SourceDescription → ℕ → Option Completion → Type 0
IsCompletedOfAny document None index found = found ≡ None
IsCompletedOfAny document (Some d) index found = IsCompletedOn document d index found

-- It is about the first description of a source whose literal covers the index or ends there.
pub record IsCompletedAt (s : SourceText) (index : ℕ) (found : Option Completion) : Type 0 where
  pub descriptions : List SourceDescription
  pub all : AreAllOf s descriptions
  pub stand : AllFound s descriptions
  pub in_order : AreInOrder 0 descriptions
  pub completed : IsCompletedOfAny s.text.now (first_touched descriptions index) index found

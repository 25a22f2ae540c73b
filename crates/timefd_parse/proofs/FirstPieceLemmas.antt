-- The first piece of a text, and what the text spells.
use Rattle.std.proofs.Common.{◌≡◌, ◌∙◌, ℕ, ◌-◌, List, [], ◌∷◌, ◌++◌, length, take, refl, sym, ap, subst, arith, inl, inr, append-nil, length-append, IsUtf8}
use Rattle.std.proofs.lemmas.List.{append_cancel_right}
use Rattle.std.proofs.lemmas.Str.{IsCharBoundary-at_seam}
use Rattle.std.specs.Str.{IsCharBoundary}
use Rattle.timefd_lang_component.specs.Tree.{Text, Tree}
use Rattle.timefd_lang_fault.specs.Faults.{Fault}
use Rattle.timefd_lang_fault.specs.declared.borrowed_parse_error.BorrowedParseError.{BorrowedParseError}
use Rattle.timefd_lang_fault.specs.declared.borrowed_parse_error.BorrowedParseError.TheVariants.{Invalid, Memory}
use Rattle.timefd_lang_fault.specs.BorrowedFaults.{to_borrowed_fault, IsBorrowedOf, IsRefusal}
use Rattle.timefd_language.specs.declared.description_version.DescriptionVersion.{DescriptionVersion}
use Rattle.timefd_lang_fault.specs.declared.read_error.ReadError.{ReadError}
use Rattle.timefd_language.specs.FaultMeaning.{IsFaultAt}
use Rattle.timefd_lang_fault.specs.ReadErrors.{MemoryOr}
use Rattle.timefd_language.specs.Fault.{raised}
use Rattle.timefd_language.specs.Broken.{broken_text, broken_fault}
use Rattle.timefd_language.specs.Grammar.{Spells, nesting_limit, no_pieces, spelling}
use Rattle.timefd_language.specs.Strftime.{SpellsStrftime, no_directives, directives_text, ill_text, ill_fault}
use Rattle.timefd_language.proofs.LawLemmas.{one_answer_law}
use Rattle.timefd_language.proofs.StrftimeReader.{strftime_one_answer_law}
use Rattle.timefd_language.specs.Directives.StrftimeReading as strftime
use Rattle.timefd_language.specs.declared.description_version.Language.{Language}
use Rattle.timefd_language.specs.declared.description_version.Language.TheVariants.{Version, Strftime}
use Rattle.timefd_parse.specs.FirstPiece.{LeadsIn, EndsWith, IsAfterFirst, IsFirst, BeginsList}
use Rattle.timefd_parse.specs.Language.{SpellsIn, FaultIn}
use Rattle.timefd_parse.specs.Read.{IsFaultIn, Leads}
use Rattle.timefd_parse.proofs.ReadLemmas.{continues_first, items_fault, memory_or}

-- The piece by itself.

version_alone : (v : DescriptionVersion) (limit : ℕ) (text piece rest : Text) (tree : Tree)
    → Leads v limit 0 text tree rest → piece ++ rest ≡ text → Spells v limit 0 piece (tree ∷ [])
version_alone v limit text piece rest tree leads joined =
    let w = leads no_pieces rest tt refl in
    (w.0, w.1, append_cancel_right piece (spelling w.0) rest (joined ∙ w.2), sym w.3)

strftime_alone : (text piece rest : Text) (tree : Tree) → strftime.Leads text tree rest
    → piece ++ rest ≡ text → SpellsStrftime piece (tree ∷ [])
strftime_alone text piece rest tree leads joined =
    let w = leads no_directives rest tt refl in
    (w.0, w.1, append_cancel_right piece (directives_text w.0) rest (joined ∙ w.2), sym w.3)

alone : (language : Language) (text piece rest : Text) (tree : Tree)
    → LeadsIn language text tree rest → piece ++ rest ≡ text
    → SpellsIn language nesting_limit piece (tree ∷ [])
alone (Version v) text piece rest tree leads joined =
    version_alone v nesting_limit text piece rest tree leads joined
alone Strftime text piece rest tree leads joined =
    strftime_alone text piece rest tree leads joined

pub is_first : (language : Language) (text piece rest : Text) → IsAfterFirst language text rest
    → piece ++ rest ≡ text → IsFirst language text piece rest
is_first language text piece rest is joined = record {
  tree = is.tree;
  alone = alone language text piece rest is.tree is.leads joined;
  leads = is.leads;
}

-- What follows it, if the whole text spells something.

version_after : (v : DescriptionVersion) (limit : ℕ) (text rest : Text) (tree : Tree)
    (list : List Tree) → Leads v limit 0 text tree rest → Spells v limit 0 text list
    → (others : List Tree) × (list ≡ tree ∷ others) × Spells v limit 0 rest others
version_after v limit text rest tree list leads s =
    let one = (one_answer_law v limit text).1 in
    elim (one_answer_law v limit rest).0 [
      | inl x ↦
          let w = leads x.1.0 [] x.1.1 (x.1.2 ∙ sym (append-nil (spelling x.1.0))) in (
            x.0,
            one.one_list list (tree ∷ x.0) s (
              w.0,
              w.1,
              w.2 ∙ append-nil (spelling w.0),
              ap (λ ts. tree ∷ ts) x.1.3 ∙ sym w.3,
            ),
            x.1,
          )
      | inr x ↦
          let w = leads x.1.0 (broken_text x.1.1) x.1.2 x.1.4 in
          absurd (one.not_both list (raised (broken_fault x.1.1) (length (spelling w.0))) s
          (w.0, x.1.1, w.1, x.1.3, w.2, refl))
    ]

strftime_after : (text rest : Text) (tree : Tree) (list : List Tree)
    → strftime.Leads text tree rest → SpellsStrftime text list
    → (others : List Tree) × (list ≡ tree ∷ others) × SpellsStrftime rest others
strftime_after text rest tree list leads s =
    let one = (strftime_one_answer_law text).1 in
    elim (strftime_one_answer_law rest).0 [
      | inl x ↦
          let w = leads x.1.0 [] x.1.1 (x.1.2 ∙ sym (append-nil (directives_text x.1.0))) in (
            x.0,
            one.one_list list (tree ∷ x.0) s (
              w.0,
              w.1,
              w.2 ∙ append-nil (directives_text w.0),
              ap (λ ts. tree ∷ ts) x.1.3 ∙ sym w.3,
            ),
            x.1,
          )
      | inr x ↦
          let w = leads x.1.0 (ill_text x.1.1) x.1.2 x.1.4 in
          absurd (one.not_both list (raised (ill_fault x.1.1) (length (directives_text w.0))) s
          (w.0, x.1.1, w.1, x.1.3, w.2, refl))
    ]

after : (language : Language) (text rest : Text) (tree : Tree) (list : List Tree)
    → LeadsIn language text tree rest → SpellsIn language nesting_limit text list
    → (others : List Tree) × (list ≡ tree ∷ others) × SpellsIn language nesting_limit rest others
after (Version v) text rest tree list leads s =
    version_after v nesting_limit text rest tree list leads s
after Strftime text rest tree list leads s = strftime_after text rest tree list leads s

pub begins_list : (language : Language) (text piece rest : Text) (list : List Tree)
    → IsAfterFirst language text rest → piece ++ rest ≡ text
    → SpellsIn language nesting_limit text list → BeginsList language piece rest list
begins_list language text piece rest list is joined s =
    let b = after language text rest is.tree list is.leads s in record {
      tree = is.tree;
      others = b.0;
      whole = b.1;
      first = alone language text piece rest is.tree is.leads joined;
      after = b.2;
    }

-- The empty text, and one that has a fault.

pub nothing_spelled : (language : Language) (text : Text) (list : List Tree) → text ≡ []
    → SpellsIn language nesting_limit text list → list ≡ []
nothing_spelled (Version v) text list none s =
    (one_answer_law v nesting_limit text).1.one_list list [] s (no_pieces, tt, none, refl)
nothing_spelled Strftime text list none s =
    (strftime_one_answer_law text).1.one_list list [] s (no_directives, tt, none, refl)

not_both : (language : Language) (text : Text) (list : List Tree) (f : Fault)
    → SpellsIn language nesting_limit text list → FaultIn language nesting_limit text f → ⊥
not_both (Version v) text list f s is =
    (one_answer_law v nesting_limit text).1.not_both list f s is
not_both Strftime text list f s is = (strftime_one_answer_law text).1.not_both list f s is

pub not_broken : (language : Language) (text : Text) (e : BorrowedParseError) (list : List Tree)
    → IsBorrowedOf (FaultIn language nesting_limit text) e → IsRefusal e
    → SpellsIn language nesting_limit text list → ⊥
not_broken language text (Invalid f) list is refusal s =
    not_both language text list (to_borrowed_fault f) s is
not_broken language text (Memory m) list is refusal s = refusal

-- the fault that a text begins with is the text's
pub fault_in : (v : DescriptionVersion) (limit : ℕ) (text : Text) (e : ReadError)
    → MemoryOr (IsFaultAt v limit 0 text) e → MemoryOr (IsFaultIn v limit 0 text) e
fault_in v limit text =
    memory_or (IsFaultAt v limit 0 text) (IsFaultIn v limit 0 text)
    (λ f is. items_fault v limit 0 text text [] f (continues_first v limit 0 text) is)

-- The cut before what follows the first piece.

pub ends_with : (language : Language) (text rest : Text) → IsAfterFirst language text rest
    → EndsWith text rest
ends_with language text rest is = ends language is.leads
  where
    ends : (language : Language) → LeadsIn language text is.tree rest → EndsWith text rest
    ends (Version v) leads = let w = leads no_pieces rest tt refl in (spelling w.0, w.2)
    ends Strftime leads = let w = leads no_directives rest tt refl in (directives_text w.0, w.2)

front_len : (text front rest : Text) → text ≡ front ++ rest
    → length front ≡ length text - length rest
front_len text front rest e = omega (arith, ap length e, length-append front rest)

pub boundary : (text rest : Text) → EndsWith text rest → IsUtf8 rest
    → IsCharBoundary text (length text - length rest)
boundary text rest ends utf8 =
    subst (IsCharBoundary text) (front_len text ends.0 rest ends.1)
    (IsCharBoundary-at_seam text ends.0 rest ends.1 utf8)

take_front : (front rest : Text) → take (length front) (front ++ rest) ≡ front
take_front [] rest = refl
take_front (b ∷ front) rest = ap (λ t. b ∷ t) (take_front front rest)

pub joined_again : (text front rest : Text) → EndsWith text rest
    → front ≡ take (length text - length rest) text → front ++ rest ≡ text
joined_again text front rest ends e =
    ap (λ t. t ++ rest) (e ∙ ap (λ n. take n text) (sym (front_len text ends.0 rest ends.1))
    ∙ ap (take (length ends.0)) ends.1 ∙ take_front ends.0 rest) ∙ sym ends.1

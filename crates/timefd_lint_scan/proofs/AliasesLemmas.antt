-- Names that are looked up among aliases.
use Rattle.std.proofs.Common.{ℕ, ◌≡◌, ◌∙◌, ◌<◌, ◌≤◌, ◌⊎◌, false, true, List, [], ◌∷◌, ap, arith, drop, get_or, inl, inr, length, nat_lt, refl}
use Rattle.std.proofs.Common.{suc, sym, take, zero}
use Rattle.std.proofs.lemmas.Bool.{and_left, and_parts, and_right, cases_Bool}
use Rattle.std.proofs.lemmas.Bool.Decides.{nat_tests}
use Rattle.std.proofs.lemmas.Slice.Eq.{bytes_eq-Decides}
use Rattle.std.specs.Prelude.{Option, Some, None, bytes_eq, nat_le}
use Rattle.timefd_lint_scan.specs.declared.alias.Alias.{Alias}
use Rattle.timefd_lint_scan.specs.declared.alias_notes.AliasNote.{AliasNote}
use Rattle.timefd_lint_scan.specs.declared.alias_notes.LastAlias.{LastAlias}
use Rattle.timefd_lint_scan.specs.AliasNotes.{AreBegun, AreEnded, AreLasts, AreUnnamed}
use Rattle.timefd_lint_scan.specs.Aliases.{is_named_so, original_of}
use Rattle.timefd_lint_scan.specs.Bytes.{Text}
use Rattle.timefd_lint_scan.specs.Layouts.{fingerprint}
use Rattle.timefd_lint_scan.specs.Words.{text_of}

-- Aliases at the front that aren't meant are passed over.
pub passed_over : (source name : Text) (position n : ℕ) (all : List Alias) → AreUnnamed source name position 0 n all
    → original_of source name position (drop n all) ≡ original_of source name position all
passed_over source name position zero all none = refl
passed_over source name position (suc n) [] none = refl
passed_over source name position (suc n) (a ∷ all) none =
    let first : is_named_so source a name position ≡ false = none 0 a (omega arith) (omega arith) (omega arith) in
    rw first (passed_over source name position n all
    (λ i d from below within. none (suc i) d (omega arith) (omega (arith, below)) (omega (arith, within))))

nothing : (source name : Text) (position : ℕ) (all : List Alias)
    → ((i : ℕ) → (d : Alias) → i < length all → is_named_so source (get_or all i d) name position ≡ false)
    → original_of source name position all ≡ None
nothing source name position [] none = refl
nothing source name position (a ∷ all) none =
    let first : is_named_so source a name position ≡ false = none 0 a (omega arith) in
    rw first (nothing source name position all (λ i d within. none (suc i) d (omega (arith, within))))

-- If none is meant from an index on, none is found there.
pub none_from : (source name : Text) (position n : ℕ) (all : List Alias)
    → ((i : ℕ) → (d : Alias) → n ≤ i → i < length all → is_named_so source (get_or all i d) name position ≡ false)
    → original_of source name position (drop n all) ≡ None
none_from source name position zero all none = nothing source name position all (λ i d within. none i d (omega arith) within)
none_from source name position (suc n) [] none = refl
none_from source name position (suc n) (a ∷ all) none =
    none_from source name position n all (λ i d from within. none (suc i) d (omega (arith, from)) (omega (arith, within)))

-- If none is meant after an index, only the one there may be.
pub only_there : (source name : Text) (position n : ℕ) (all : List Alias)
    → ((i : ℕ) → (d : Alias) → n < i → i < length all → is_named_so source (get_or all i d) name position ≡ false)
    → original_of source name position (take 1 (drop n all)) ≡ original_of source name position (drop n all)
only_there source name position zero [] none = refl
only_there source name position zero (a ∷ all) none =
    let rest : original_of source name position all ≡ None =
    nothing source name position all (λ i d within. none (suc i) d (omega arith) (omega (arith, within))) in
    rw rest refl
only_there source name position (suc n) [] none = refl
only_there source name position (suc n) (a ∷ all) none =
    only_there source name position n all (λ i d from within. none (suc i) d (omega (arith, from)) (omega (arith, within)))

-- An alias isn't meant, or it has the name.
named : (source name : Text) (position : ℕ) (a : Alias)
    → (is_named_so source a name position ≡ false) ⊎ (text_of source a.name ≡ name)
named source name position a = elim (cases_Bool (bytes_eq (text_of source a.name) name)) [
  | inl same ↦ inr ((bytes_eq-Decides (text_of source a.name) name).0 same)
  | inr other ↦ inl (rw other refl)
]

-- An alias whose name isn't kept isn't meant.
unkept : (source name : Text) (position i : ℕ) (d : Alias) (all : List Alias) (kept : ℕ → Option LastAlias)
    → kept (fingerprint name) ≡ None → AreLasts source all (length all) kept → i < length all
    → is_named_so source (get_or all i d) name position ≡ false
unkept source name position i d all kept none are within = elim (named source name position (get_or all i d)) [
  | inl not ↦ not
  | inr same ↦
      let (last, there, order, end) = are.kept_for i d within within in
      let here : kept (fingerprint name) ≡ Some last = ap (λ t. kept (fingerprint t)) (sym same) ∙ there in
      absurd (cc (none, here))
]

pub absent : (source name : Text) (position : ℕ) (all : List Alias) (kept : ℕ → Option LastAlias)
    → kept (fingerprint name) ≡ None → AreLasts source all (length all) kept → original_of source name position all ≡ None
absent source name position all kept none are =
    nothing source name position all (λ i d within. unkept source name position i d all kept none are within)

abbrev index_or : Option LastAlias → ℕ
index_or None = 0
index_or (Some last) = last.index

-- Aliases after the last one that is kept have other names.
pub after_last : (source name : Text) (position n : ℕ) (all : List Alias) (last : LastAlias) (kept : ℕ → Option LastAlias)
    → kept (fingerprint name) ≡ Some last → AreLasts source all (length all) kept → last.index ≤ n
    → original_of source name position (take 1 (drop n all)) ≡ original_of source name position (drop n all)
after_last source name position n all last kept is are order =
    only_there source name position n all (λ i d from within. elim (named source name position (get_or all i d)) [
      | inl not ↦ not
      | inr same ↦
          let (other, there, before, end) = are.kept_for i d within within in
          let here : kept (fingerprint name) ≡ Some other = ap (λ t. kept (fingerprint t)) (sym same) ∙ there in
          let one : last.index ≡ other.index = ap index_or (sym is ∙ here) in
          absurd (omega (arith, one, before, order, from))
    ])

-- Aliases that begin later aren't meant.
pub unbegun : (source name : Text) (position n : ℕ) (all : List Alias) (begins : List ℕ) → AreBegun all 0 begins
    → n < length begins → position < get_or begins n 0 → original_of source name position (drop n all) ≡ None
unbegun source name position n all begins are below late =
    none_from source name position n all (λ i d from within.
    let bound : get_or begins n 0 ≤ (get_or all i d).name.start = are.begun_at i n d (omega arith) from below within in
    let not : nat_le (get_or all i d).name.start position ≡ false = grind (arith, nat_tests, bound, late) in
    and_left _ _ (and_right _ _ not))

-- Aliases that have ended aren't meant.
pub closed : (source name : Text) (position n : ℕ) (all : List Alias) (notes : List AliasNote) (note : AliasNote)
    → AreEnded source all notes → n < length notes → ((e : AliasNote) → get_or notes n e ≡ note)
    → note.number ≡ fingerprint name → note.ended ≤ position → AreUnnamed source name position 0 n all
closed source name position n all notes note are below at numbered early = λ i d from before within.
    elim (named source name position (get_or all i d)) [
      | inl not ↦ not
      | inr same ↦
          let here : get_or notes n note ≡ note = at note in
          let number : fingerprint (text_of source (get_or all i d).name) ≡ (get_or notes n note).number =
          ap fingerprint same ∙ (sym numbered ∙ ap (λ (m : AliasNote). m.number) (sym here)) in
          let bound : (get_or all i d).until ≤ (get_or notes n note).ended =
          are.ended_at i n d note before below within number in
          let end : (get_or notes n note).ended ≡ note.ended = ap (λ (m : AliasNote). m.ended) here in
          let over : nat_lt position (get_or all i d).until ≡ false = grind (arith, nat_tests, bound, end, early) in
          and_right _ _ over
    ]

pub none_closed : (source name : Text) (position : ℕ) (all : List Alias) → AreUnnamed source name position 0 0 all
none_closed source name position all = λ i d from below within. absurd (omega (arith, below))

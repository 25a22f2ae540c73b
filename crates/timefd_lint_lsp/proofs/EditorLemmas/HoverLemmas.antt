-- What is shown at an index of a document.
use Rattle.std.proofs.Common.{ℕ, ◌≡◌, Bool, true, false, List, [], ◌∷◌, Option, None, Some, inl, inr, refl, sym, subst, ◌∙◌}
use Rattle.std.proofs.lemmas.List.Elements.{All-head, All-tail}
use Rattle.std.specs.Prelude.{IfOk, IfSome, IsTrue, IsUtf8, Result, Ok, Err, if◌then◌else◌}
use Rattle.timefd_parse.specs.Tree.{Text, Tree}
use Rattle.timefd_lint_lsp.specs.declared.editor.fault_hover.Hover.{Hover}
use Rattle.timefd_lint_lsp.specs.Editor.FaultHovers.{IsFaultHover, is_at_fault}
use Rattle.timefd_lint_lsp.specs.Editor.GoodFronts.{IsGoodFront}
use Rattle.timefd_lint_lsp.specs.Editor.Hovers.{IsHoverIn, IsPartOrFault, IsShownAt, IsShownBy, IsShownIn, IsShownOf, IsShownOfAny, IsShownOn, IsShownRefused, IsShownRefusedIf, IsShownWhere, byte_at, covers, first_at, innermost, innermost_from, is_at}
use Rattle.timefd_lint_diagnosis.specs.declared.diagnostic.Diagnostic.{Diagnostic}
use Rattle.timefd_lint_diagnosis.specs.Diagnoses.{IsDiagnosed, IsDiagnosis}
use Rattle.timefd_lint_explain.specs.declared.node.ShownNode.{ShownNode}
use Rattle.timefd_lint_explain.specs.Examples.{Examples, HasExample}
use Rattle.timefd_lang_fault.specs.Faults.{fault_of}
use Rattle.timefd_language.specs.Grammar.{nesting_limit}
use Rattle.timefd_lint_sources.specs.declared.reported.ItemEnd.{ItemEnd}
use Rattle.timefd_lint_sources.specs.declared.reported.ItemEnd.TheVariants.{PassedOver, Accepted, Converted, Refused, NotText, Allowed, UnreadCall, UnreadValue, WrongComment}
use Rattle.timefd_lint_sources.specs.declared.reported.SourceText.{SourceText}
use Rattle.timefd_lint_sources.specs.Judged.{is_passed_over, language_in, text_of, found_by}
use Rattle.timefd_lint_sources.specs.Reported.{AllFound, AreAllOf, IsFound}
use Rattle.timefd_language.specs.declared.description_version.Language.{Language}
use Rattle.timefd_parse.specs.Language.{FaultIn, SpellsIn}
use Rattle.timefd_lint_scan.specs.declared.description.SourceDescription.{SourceDescription}
use Rattle.timefd_lint_scan.specs.Found.{AreInOrder}

some_inj : {X : Type 0} {a b : X} → Some a ≡ Some b → a ≡ b
some_inj e = cc

none_is_some : {X : Type 0} {a : X} → None ≡ Some a → ⊥
none_is_some e = cc

abbrev IsInner : ℕ → ShownNode → Type 0
IsInner at n = HasExample n × IsTrue (covers n at)

-- The innermost node at a byte covers it, and has its example.
inner_from : (inner : Option ShownNode) (ns : List ShownNode) (at : ℕ) (n : ShownNode) → IfSome inner (IsInner at) → Examples ns
    → innermost_from inner ns at ≡ Some n → IsInner at n
inner_from inner [] at n so_far each is = subst (λ o. IfSome o (IsInner at)) is so_far
inner_from inner (m ∷ ns) at n so_far each is =
    inner_from (if covers m at then Some m else inner) ns at n (by (covers m at) refl) each.1 is
  where
    by : (b : Bool) → covers m at ≡ b → IfSome (if b then Some m else inner) (IsInner at)
    by true covered = (each.0, covered)
    by false covered = so_far

-- The first description that covers an index is one of the descriptions, and covers it.
first_is : (s : SourceText) (ds : List SourceDescription) (index : ℕ) (d : SourceDescription) → AllFound s ds
    → first_at ds index ≡ Some d → IsFound s d × IsTrue (is_at d.piece index)
first_is s [] index d all is = absurd (none_is_some is)
first_is s (e ∷ ds) index d all is =
    by (is_at e.piece index) refl is (first_is s ds index d (All-tail (IsFound s) e ds all))
  where
    by : (b : Bool) → is_at e.piece index ≡ b → (if b then Some e else first_at ds index) ≡ Some d
        → (first_at ds index ≡ Some d → IsFound s d × IsTrue (is_at d.piece index))
        → IsFound s d × IsTrue (is_at d.piece index)
    by true stands same later =
        subst (λ x. IsFound s x × IsTrue (is_at x.piece index)) (some_inj same)
        (All-head (IsFound s) e ds all, stands)
    by false stands same later = later same

-- What is shown is a part of a description that covers the index.
by_node : (s : SourceText) (d : SourceDescription) (index : ℕ) (h : Hover) (ns : List ShownNode) (o : Option ShownNode)
    → IsFound s d → IsTrue (is_at d.piece index) → Examples ns → innermost ns (byte_at d index) ≡ o
    → IsShownOf s.text.now d o (Some h) → IsHoverIn s index h
by_node s d index h ns None found stands each is shown = absurd (none_is_some (sym shown))
by_node s d index h ns (Some n) found stands each is shown =
    let inner = inner_from None ns (byte_at d index) n tt each is in
    record {
      description = d;
      node = n;
      found = found;
      stands = stands;
      covered = inner.1;
      example = inner.0;
      shown = shown;
    }

by_parts : (s : SourceText) (d : SourceDescription) (index : ℕ) (h : Hover) (text : Text) → IsFound s d
    → IsTrue (is_at d.piece index) → IsShownIn s.text.now d text (byte_at d index) (Some h) → IsHoverIn s index h
by_parts s d index h text found stands (ns, are, shown) =
    by_node s d index h ns (innermost ns (byte_at d index)) found stands are.examples refl shown

-- In a refused description it is its fault, or a part before that.
by_refused : (s : SourceText) (d : SourceDescription) (index : ℕ) (h : Hover) (g : Diagnostic) (there : Bool)
    → is_at_fault d g index ≡ there → IsFound s d → IsTrue (is_at d.piece index)
    → IsDiagnosed (language_in d) (text_of d) g
    → IsShownRefusedIf there s.text.now d (text_of d) g index (Some h) → IsPartOrFault s index h
by_refused s d index h g true is found stands diagnosed shown = inr (record {
  description = d;
  fault = g;
  found = found;
  stands = stands;
  diagnosed = diagnosed;
  at = is;
  shown = shown;
})
by_refused s d index h g false is found stands diagnosed (front, good, shown) =
    inl (by_parts s d index h front found stands shown)

by_end : (s : SourceText) (d : SourceDescription) (index : ℕ) (h : Hover) (end : ItemEnd) → IsFound s d
    → IsTrue (is_at d.piece index) → IsShownBy s.text.now d (text_of d) index end (Some h)
    → IsPartOrFault s index h
by_end s d index h PassedOver found stands shown = absurd (none_is_some (sym shown))
by_end s d index h (Accepted warned) found stands shown = inl (by_parts s d index h (text_of d) found stands shown)
by_end s d index h (Converted count) found stands shown = absurd shown
by_end s d index h Refused found stands (g, diagnosed, shown) =
    by_refused s d index h g (is_at_fault d g index) refl found stands diagnosed shown
by_end s d index h NotText found stands shown = absurd (none_is_some (sym shown))
by_end s d index h (Allowed left) found stands shown = absurd shown
by_end s d index h UnreadCall found stands shown = absurd shown
by_end s d index h UnreadValue found stands shown = absurd shown
by_end s d index h WrongComment found stands shown = absurd shown

by_description : (s : SourceText) (ds : List SourceDescription) (index : ℕ) (h : Hover) (o : Option SourceDescription) → AllFound s ds
    → first_at ds index ≡ o → IsShownOfAny s.text.now o index (Some h) → IsPartOrFault s index h
by_description s ds index h None all is shown = absurd (none_is_some (sym shown))
by_description s ds index h (Some d) all is shown =
    let first = first_is s ds index d all is in
    by_end s d index h shown.end first.0 first.1 shown.shown

part_of : (s : SourceText) (index : ℕ) (found : Option Hover) → IsShownAt s index found
    → IfSome found (IsPartOrFault s index)
part_of s index None at = tt
part_of s index (Some h) at =
    by_description s at.descriptions index h (first_at at.descriptions index) at.stand refl at.shown

pub parts_of : {E : Type 0} (s : SourceText) (index : ℕ) (done : Result (Option Hover) E) → IfOk done (IsShownAt s index)
    → IfOk done (λ found. IfSome found (IsPartOrFault s index))
parts_of s index (Ok found) at = part_of s index found at
parts_of s index (Err e) at = tt

pub at_first : {E : Type 0} (s : SourceText) (ds : List SourceDescription) (index : ℕ) (o : Option SourceDescription)
    (done : Result (Option Hover) E) → AreAllOf s ds → AllFound s ds → AreInOrder 0 ds → o ≡ first_at ds index
    → IfOk done (IsShownOfAny s.text.now o index) → IfOk done (IsShownAt s index)
at_first s ds index o (Ok found) all stand in_order first shown = record {
  descriptions = ds;
  all = all;
  stand = stand;
  in_order = in_order;
  shown = subst (λ x. IsShownOfAny s.text.now x index found) first shown;
}
at_first s ds index o (Err e) all stand in_order first shown = tt

-- For a refused text its fault is shown, or a part before it.
pub refused : {E : Type 0} (document : Text) (d : SourceDescription) (language : Language) (text : Text) (index : ℕ)
    (found : Option Diagnostic) (g : Diagnostic) (done : Result (Option Hover) E) → language ≡ language_in d
    → IsUtf8 text → found ≡ Some g
    → IfSome found (λ x. FaultIn language nesting_limit text (fault_of x.fault))
    → IfSome found (IsDiagnosis language text) → IfOk done (IsShownRefused document d text g index)
    → IfOk done (IsShownWhere document d text index)
refused document d language text index found g (Ok hover) named utf8 is faulty diagnosis shown =
    let fault : FaultIn (language_in d) nesting_limit text (fault_of g.fault) =
    subst (λ l. FaultIn l nesting_limit text (fault_of g.fault)) named
    (subst (λ o. IfSome o (λ x. FaultIn language nesting_limit text (fault_of x.fault))) is faulty) in
    let said : IsDiagnosis (language_in d) text g =
    subst (λ l. IsDiagnosis l text g) named (subst (λ o. IfSome o (IsDiagnosis language text)) is diagnosis) in
    (Refused, (utf8, (fault_of g.fault, fault)), (g, record { fault = fault; diagnosis = said }, shown))
refused document d language text index found g (Err e) named utf8 is faulty diagnosis shown = tt

-- For an accepted text its innermost part is shown.
pub accepted : {E : Type 0} (document : Text) (d : SourceDescription) (language : Language) (text : Text) (index : ℕ)
    (list : List Tree) (done : Result (Option Hover) E) → language ≡ language_in d → IsUtf8 text
    → SpellsIn language nesting_limit text list → IfOk done (IsShownIn document d text (byte_at d index))
    → IfOk done (IsShownWhere document d text index)
accepted document d language text index list (Ok found) named utf8 spelled shown = (
  Accepted (found_by None (language_in d) list),
  (utf8, (list, subst (λ l. SpellsIn l nesting_limit text list) named spelled, refl)),
  shown,
)
accepted document d language text index list (Err e) named utf8 spelled shown = tt

-- Nothing is shown for a text that is passed over, nor for one that isn't UTF-8.
pub passed_over : (document : Text) (d : SourceDescription) (index : ℕ) (bytes : Text) (passed : Bool) → bytes ≡ text_of d
    → passed ≡ is_passed_over d.dialect bytes → passed ≡ true → IsShownOn document d index None
passed_over document d index bytes passed same is so = record {
  end = PassedOver;
  is = subst (λ t. is_passed_over d.dialect t ≡ true) same (sym is ∙ so);
  shown = refl;
}

pub not_text : (document : Text) (d : SourceDescription) (index : ℕ) (bytes : Text) (passed : Bool) → bytes ≡ text_of d
    → passed ≡ is_passed_over d.dialect bytes → passed ≡ false → ¬ IsUtf8 bytes → IsShownOn document d index None
not_text document d index bytes passed same is so not = record {
  end = NotText;
  is = (
    subst (λ t. is_passed_over d.dialect t ≡ false) same (sym is ∙ so),
    subst (λ t. ¬ IsUtf8 t) same not,
  );
  shown = refl;
}

-- A fault is shown where the index is at it.
pub at_fault : (document : Text) (d : SourceDescription) (text : Text) (g : Diagnostic) (index : ℕ) (there : Bool) (h : Hover)
    → there ≡ is_at_fault d g index → there ≡ true → IsFaultHover document d g h
    → IsShownRefused document d text g index (Some h)
at_fault document d text g index there h is so shown =
    subst (λ b. IsShownRefusedIf b document d text g index (Some h)) (sym so ∙ is) shown

-- Elsewhere a part before the fault is shown.
pub before_fault : {E : Type 0} (document : Text) (d : SourceDescription) (language : Language) (text front : Text) (g : Diagnostic)
    (index : ℕ) (there : Bool) (done : Result (Option Hover) E) → there ≡ is_at_fault d g index → there ≡ false
    → language ≡ language_in d → IsGoodFront language text front
    → IfOk done (IsShownIn document d front (byte_at d index)) → IfOk done (IsShownRefused document d text g index)
before_fault document d language text front g index there (Ok found) is so named good shown =
    subst (λ b. IsShownRefusedIf b document d text g index found) (sym so ∙ is)
    (front, subst (λ l. IsGoodFront l text front) named good, shown)
before_fault document d language text front g index there (Err e) is so named good shown = tt

-- Rules about brackets that go wrong before they are closed.
use Rattle.std.proofs.Common.{ℕ, ◌≡◌, ◌≢◌, ◌+◌, [], ◌∷◌, ◌++◌, length, append_assoc, refl, sym, ap, ap₂, ◌∙◌}
use Rattle.timefd_lang_component.specs.Tree.{Text}
use Rattle.timefd_lang_fault.specs.Faults.{Kind, fault, unclosed_bracket}
use Rattle.timefd_language.specs.Bytes.{left}
use Rattle.timefd_language.specs.Fault.{raised, enclosed}
use Rattle.timefd_language.specs.Grammar.{spelling}
use Rattle.timefd_language.specs.Broken.{nameless, ill_modified, no_colon, no_key, no_value, too_deep, broken_inside, cut_off, unclosed, refused, before_inner}
use Rattle.timefd_laws.specs.Brackets.{begun_text, NameWanted, NameWantedAfterWhite, ColonWanted, KeyWanted, ValueWanted, Unclosed, TooDeep, CutOff, FaultInside, UnclosedInside, RefusedBracket, FaultAfterPieces}

pub name_wanted : NameWanted
name_wanted v limit n rest white word single =
    (nameless [] rest, (refl, white, word, single), refl, refl)

pub name_wanted_after_white : NameWantedAfterWhite
name_wanted_after_white v limit n [] rest some white word single = absurd some
name_wanted_after_white v limit n (w ∷ ws) rest some white word single =
    (nameless (w ∷ ws) rest, (some, white, word, single), refl, refl)

pub colon_wanted : ColonWanted
colon_wanted v limit n h white word rest head some is stops =
    (ill_modified h white (no_colon word) rest, (head, some, is, stops), refl, refl)

pub key_wanted : KeyWanted
key_wanted v limit n h white value rest head some is stops =
    (ill_modified h white (no_key value) rest, (head, some, is, stops), refl, refl)

pub value_wanted : ValueWanted
value_wanted v limit n h white key rest head some is stops =
    (ill_modified h white (no_value key) rest, (head, some, is, stops), refl, refl)

pub unclosed_reported : Unclosed
unclosed_reported v limit n h ns white rest begun w b whole =
    (unclosed h ns white rest, (begun.0, begun.1, begun.2, w, b, whole), refl, refl)

-- the `[` of a nested description, and what it holds
inner_text : (begun front inner : Text)
    → begun ++ left ∷ front ++ inner ≡ begun ++ left ∷ [] ++ front ++ inner
inner_text begun front inner = ap (λ x. x ++ inner) (sym (append_assoc begun (left ∷ []) front))

inner_begun : (begun front : Text) → begun ++ left ∷ front ≡ begun ++ left ∷ [] ++ front
inner_begun begun front = sym (append_assoc begun (left ∷ []) front)

pub too_deep_reported : TooDeep
too_deep_reported v limit h ns white rest begun = (
  too_deep h ns white rest,
  (begun.0, begun.1, begun.2, refl),
  inner_begun (begun_text h ns white)
      rest,
  refl,
)

pub cut_off_reported : CutOff
cut_off_reported v limit n h ns white front begun less are = (
  cut_off h ns white front,
  (begun.0, begun.1, begun.2, less, are),
  inner_begun
      (begun_text h ns white) (spelling front),
  refl,
)

enclosed_other : (kind : Kind) (index k : ℕ) → kind ≢ unclosed_bracket
    → fault kind (index + k) ≡ enclosed kind index k
enclosed_other unclosed_bracket index k other = absurd (other refl)
enclosed_other kind index k other = refl

pub fault_inside : FaultInside
fault_inside v limit n h ns white front inner f begun less are bad other = (
  broken_inside h ns white front bad.0,
  (begun.0, begun.1, begun.2, less, are, bad.1),
  inner_text (begun_text h ns white) (spelling front) inner
      ∙ ap (λ x. before_inner h ns white ++ spelling front ++ x) bad.2,
  enclosed_other f.kind f.index (length (begun_text h ns white ++ left ∷ spelling front)) other
      ∙ ap₂ (λ g k. enclosed g.kind g.index k) bad.3
      (ap length (inner_begun (begun_text h ns white) (spelling front))),
)

pub unclosed_inside : UnclosedInside
unclosed_inside v limit n h ns white front inner index begun less are bad = (
  broken_inside h ns white front bad.0,
  (begun.0, begun.1, begun.2, less, are, bad.1),
  inner_text (begun_text h ns white) (spelling front) inner
      ∙ ap (λ x. before_inner h ns white ++ spelling front ++ x) bad.2,
  ap (λ g. enclosed g.kind g.index (length (before_inner h ns white ++ spelling front))) bad.3,
)

pub refused_bracket : RefusedBracket
refused_bracket v limit n h ns white rest kind index begun is = (
  refused h ns white (fault kind index) rest,
  (begun.0, begun.1, begun.2, is),
  refl,
  refl,
)

pub fault_after_pieces : FaultAfterPieces
fault_after_pieces v limit front text f are bad = (
  front,
  bad.0,
  are,
  bad.1,
  ap (λ x. spelling front ++ x) bad.2,
  ap (λ g. raised g (length (spelling front))) bad.3,
)

-- What stays the same about a fault when the text goes on.
use Rattle.std.proofs.Common.{ℕ, suc, ◌≡◌, ◌≢◌, [], ◌∷◌, ◌++◌, length, refl, sym, ◌∙◌, ap, append_assoc}
use Rattle.timefd_language.specs.declared.description_version.DescriptionVersion.{DescriptionVersion}
use Rattle.timefd_language.specs.declared.description_version.DescriptionVersion.TheVariants.{One, Two, Three}
use Rattle.timefd_lang_component.specs.Tree.{Text}
use Rattle.timefd_language.specs.Bytes.{left, right}
use Rattle.timefd_language.specs.Fault.{enclosed, raised}
use Rattle.timefd_language.specs.Head.{head_text}
use Rattle.timefd_language.specs.Grammar.{Nested, no_nested, nested, spelling, nested_text}
use Rattle.timefd_language.specs.Broken.{Broken, bare_closing, half_escape, nameless, ill_modified, too_deep, broken_inside, cut_off, unclosed, refused, IsBroken, broken_text, broken_fault, misfit_text, before_inner, BeginsNoEscape, IsWholeBefore}
use Rattle.timefd_language.specs.Settled.{after_fault, Settled}

-- the construct, with more text after it
abbrev pub extended : Broken → Text → Broken
extended (bare_closing rest) t = bare_closing (rest ++ t)
extended (half_escape rest) t = half_escape (rest ++ t)
extended (nameless white rest) t = nameless white (rest ++ t)
extended (ill_modified h white word rest) t = ill_modified h white word (rest ++ t)
extended (too_deep h ns white rest) t = too_deep h ns white (rest ++ t)
extended (broken_inside h ns white front inner) t = broken_inside h ns white front
    (extended inner t)
extended (cut_off h ns white front) t = cut_off h ns white front
extended (unclosed h ns white rest) t = unclosed h ns white (rest ++ t)
extended (refused h ns white f rest) t = refused h ns white f (rest ++ t)

pub extended_text : (b : Broken) (t : Text) → after_fault b ≢ []
    → broken_text (extended b t) ≡ broken_text b ++ t
extended_text (bare_closing rest) t some = refl
extended_text (half_escape rest) t some = refl
extended_text (nameless white rest) t some = ap (λ x. left ∷ x) (sym (append_assoc white rest t))
extended_text (ill_modified h white word rest) t some =
    sym (append_assoc (head_text h ++ white ++ misfit_text word) rest t)
extended_text (too_deep h ns white rest) t some =
    sym (append_assoc (before_inner h ns white) rest t)
extended_text (broken_inside h ns white front inner) t some =
    ap (λ x. before_inner h ns white ++ spelling front ++ x) (extended_text inner t some)
    ∙ sym (append_assoc (before_inner h ns white ++ spelling front) (broken_text inner) t)
extended_text (cut_off h ns white front) t some = absurd (some refl)
extended_text (unclosed h ns white rest) t some =
    sym (append_assoc (head_text h ++ nested_text ns ++ white) rest t)
extended_text (refused h ns white f rest) t some =
    sym (append_assoc (head_text h ++ nested_text ns ++ white) (right ∷ rest) t)

pub extended_fault : (b : Broken) (t : Text) → after_fault b ≢ []
    → broken_fault (extended b t) ≡ broken_fault b
extended_fault (bare_closing rest) t some = refl
extended_fault (half_escape []) t some = absurd (some refl)
extended_fault (half_escape (c ∷ rest)) t some = refl
extended_fault (nameless white rest) t some = refl
extended_fault (ill_modified h white word rest) t some = refl
extended_fault (too_deep h ns white rest) t some = refl
extended_fault (broken_inside h ns white front inner) t some =
    ap (λ x. enclosed x.kind x.index (length (before_inner h ns white ++ spelling front)))
    (extended_fault inner t some)
extended_fault (cut_off h ns white front) t some = absurd (some refl)
extended_fault (unclosed h ns white rest) t some = refl
extended_fault (refused h ns white f rest) t some = refl

begins_no_escape : (v : DescriptionVersion) (white : Text) (c : ℕ) (rest t : Text)
    → BeginsNoEscape v (white ++ c ∷ rest) → BeginsNoEscape v (white ++ ((c ∷ rest) ++ t))
begins_no_escape One [] c rest t is = is
begins_no_escape One (w ∷ white) c rest t is = is
begins_no_escape Two white c rest t is = tt
begins_no_escape Three white c rest t is = tt

is_whole : (ns : Nested) (c : ℕ) (rest t : Text) → IsWholeBefore ns (c ∷ rest)
    → IsWholeBefore ns ((c ∷ rest) ++ t)
is_whole no_nested c rest t is = is
is_whole (nested white ps ns) c rest t is = tt

pub extended_broken : (b : Broken) (v : DescriptionVersion) (limit n : ℕ) (t : Text)
    → after_fault b ≢ [] → IsBroken v limit n b → IsBroken v limit n (extended b t)
extended_broken (bare_closing rest) v limit n t some is = is
extended_broken (half_escape []) v limit n t some is = absurd (some refl)
extended_broken (half_escape (c ∷ rest)) v limit n t some is = is
extended_broken (nameless white []) v limit n t some is = absurd (some refl)
extended_broken (nameless white (c ∷ rest)) v limit n t some is =
    (is.0, is.1, is.2, begins_no_escape v white c rest t is.3)
extended_broken (ill_modified h white word []) v limit n t some is = absurd (some refl)
extended_broken (ill_modified h white word (c ∷ rest)) v limit n t some is = is
extended_broken (too_deep h ns white rest) v limit n t some is = is
extended_broken (broken_inside h ns white front inner) v limit n t some is =
    (is.0, is.1, is.2, is.3, is.4, extended_broken inner v limit (suc n) t some is.5)
extended_broken (cut_off h ns white front) v limit n t some is = absurd (some refl)
extended_broken (unclosed h ns white []) v limit n t some is = absurd (some refl)
extended_broken (unclosed h ns white (c ∷ rest)) v limit n t some is =
    (is.0, is.1, is.2, is.3, is.4, is_whole ns c rest t is.5)
extended_broken (refused h ns white f rest) v limit n t some is = is

pub settled_law : Settled
settled_law v limit s t f h = (
  h.0,
  extended h.1 t,
  h.3,
  extended_broken h.1 v limit 0 t h.2 h.4,
  ap (λ x. x ++ t) h.5 ∙ append_assoc (spelling h.0) (broken_text h.1) t
      ∙ ap (λ x. spelling h.0 ++ x) (sym (extended_text h.1 t h.2)),
  h.6 ∙ ap (λ x. raised x (length (spelling h.0))) (sym (extended_fault h.1 t h.2)),
)

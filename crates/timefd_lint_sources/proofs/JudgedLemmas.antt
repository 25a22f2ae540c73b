-- Descriptions as they are checked.
use Rattle.std.proofs.Common.{◌≡◌, List, [], ◌∷◌, ◌++◌, length, inl, inr, refl, sym, ap, subst}
use Rattle.std.specs.Prelude.{Bool, false, IfOk, Option, None, Some, Result, Ok, Err, IsUtf8}
use Rattle.timefd_parse.specs.Tree.{Text}
use Rattle.timefd_language.specs.declared.description_version.DescriptionVersion.{DescriptionVersion}
use Rattle.timefd_lint_scan.specs.declared.description.SourceDescription.{SourceDescription}
use Rattle.timefd_lint_sources.specs.Items.{AreJudgedAs, HoldsItem, IsAllOpened, IsJudgedAs, IsJudgedText, IsOpened, taking}

pub as_it_is : (d : SourceDescription) → taking d.items d.dialect ≡ None → IsJudgedAs d d
as_it_is d none = record {
  piece = refl;
  kind = refl;
  dialect = refl;
  items = refl;
  version = refl;
  call = refl;
  positions = refl;
  text = subst (λ o. IsJudgedText o d.unescaped.text.items d.unescaped.text.items) (sym none) refl;
}

pub no_text : (d : SourceDescription) (v : DescriptionVersion) → taking d.items d.dialect ≡ Some v
    → ¬ IsUtf8 d.unescaped.text.items → IsJudgedAs d d
no_text d v takes none = record {
  piece = refl;
  kind = refl;
  dialect = refl;
  items = refl;
  version = refl;
  call = refl;
  positions = refl;
  text = subst (λ o. IsJudgedText o d.unescaped.text.items d.unescaped.text.items) (sym takes)
      (inl (none, refl));
}

pub is_text : (d : SourceDescription) (v : DescriptionVersion) (text judged : Text)
    → taking d.items d.dialect ≡ Some v → text ≡ d.unescaped.text.items → IsUtf8 text
    → IsAllOpened (length text) v text judged
    → IsJudgedText (taking d.items d.dialect) d.unescaped.text.items judged
is_text d v text judged takes same utf8 opened =
    subst (λ o. IsJudgedText o d.unescaped.text.items judged) (sym takes)
    (subst (λ t. IsJudgedText (Some v) t judged) same (inr (utf8, opened)))

-- One more is checked.
pub one_more : (ds judged now : List SourceDescription) (d one : SourceDescription) → AreJudgedAs ds judged → IsJudgedAs d one
    → now ≡ judged ++ (one ∷ []) → AreJudgedAs (ds ++ (d ∷ [])) now
one_more ds judged now d one are is pushed = subst (AreJudgedAs (ds ++ (d ∷ []))) (sym pushed) (more ds judged are)
  where
    more : (ds judged : List SourceDescription) → AreJudgedAs ds judged → AreJudgedAs (ds ++ (d ∷ [])) (judged ++ (one ∷ []))
    more [] judged none = (one, [], is, refl, ap (λ x. x ++ (one ∷ [])) none)
    more (e ∷ es) judged (first, others, is', are', whole) =
        (first, others ++ (one ∷ []), is', more es others are', ap (λ x. x ++ (one ∷ [])) whole)

-- A description without such an item.
pub holds_none : {E : Type 0} (o : Option DescriptionVersion) (v : DescriptionVersion) (text : Text)
    (done : Result Bool E) → o ≡ Some v
    → IfOk done (λ holds. holds ≡ false → (next : Text) → IsOpened v text next → ⊥)
    → IfOk done (λ holds. holds ≡ false → HoldsItem o text → ⊥)
holds_none o v text (Ok holds) some none = λ is item.
    let opened : HoldsItem (Some v) text = subst (λ x. HoldsItem x text) some item in
    none is opened.0 opened.1
holds_none o v text (Err e) some none = tt

-- Items that are set aside.
use Rattle.std.proofs.Common.{ℕ, zero, suc, ◌≡◌, ◌-◌, [], ◌∷◌, ◌++◌, length, inl, inr, refl, sym, ap, subst, ◌∙◌, arith, append_assoc, List}
use Rattle.std.specs.Prelude.{Option, None, Some, Result, Ok, Err, IfOk, IfSome, MatchOption, codes, string_bytes}
use Rattle.std.specs.Borrow.{Bor}
use Rattle.std.specs.declared.alloc.Global.{Global}
use Rattle.std.specs.declared.string.String.{String}
use Rattle.timefd_parse.specs.Tree.{Text}
use Rattle.timefd_parse.specs.Faults.{Fault}
use Rattle.timefd_language.specs.Bytes.{left, right, is_white}
use Rattle.timefd_language.specs.Cut.{IsCut}
use Rattle.timefd_language.specs.declared.description_version.DescriptionVersion.{DescriptionVersion}
use Rattle.timefd_lint_rewrite.specs.Layouts.{IsConverted}
use Rattle.timefd_lint_rewrite.specs.declared.layout.Layout.{Layout}
use Rattle.timefd_parse.proofs.BracketLemmas.{same_cut}
use Rattle.timefd_parse.specs.BracketParts.{BeginsNamed, BeginsNested}
use Rattle.timefd_lint_sources.specs.Items.{IsItemFault}
use Rattle.timefd_lint_sources.specs.Rewriting.Aside.{AreNestsConverted, IsConvertedWithin, IsItemConverted, IsNestConverted, IsSetAside, mark}

-- What holds of an answer because something else does.
pub in_answer : {E : Type 0} (P Q : Text → Type 0) (r : Result (Option (String Global)) E) → ((t : Text) → P t → Q t)
    → IfOk r (λ a. IfSome a (λ s. P (string_bytes s))) → IfOk r (λ a. IfSome a (λ s. Q (string_bytes s)))
in_answer P Q (Err e) f is = tt
in_answer P Q (Ok None) f is = tt
in_answer P Q (Ok (Some s)) f is = f (string_bytes s) is

-- A nested description.

pub is_nest : (v : DescriptionVersion) (layout : Layout) (text inner answer white rest new after : Text)
    → IsCut is_white text white rest → IsConverted layout inner answer
    → new ≡ white ++ (codes "[" ++ (answer ++ codes "]")) → BeginsNested v text inner after
    → IsNestConverted v layout text inner new after
is_nest v layout text inner answer white rest new after parts converted is begins = record {
  answer = answer;
  begins = begins;
  converted = converted;
  so = is ∙ ap (λ w. w ++ (left ∷ (answer ++ right ∷ [])))
      (same_cut is_white text white rest begins.white (left ∷ (inner ++ right ∷ after)) parts begins.whole begins.all_white
      refl).front;
}

-- What is converted so far comes before what the rest becomes.
pub record AreSoFar (v : DescriptionVersion) (layout : Layout) (text rest so_far : Text) : Type 0 where
  pub others : (new last : Text) → AreNestsConverted v layout rest new last
      → AreNestsConverted v layout text (so_far ++ new) last

pub at_first : (v : DescriptionVersion) (layout : Layout) (text so_far : Text) → so_far ≡ []
    → AreSoFar v layout text text so_far
at_first v layout text so_far none = record {
  others = λ new last are. subst (λ t. AreNestsConverted v layout text (t ++ new) last) (sym none) are;
}

regrouped : (a b c : Text) → a ++ (b ++ c) ≡ (a ++ b) ++ c
regrouped a b c = simp append_assoc

pub more_nests : (v : DescriptionVersion) (layout : Layout) (text rest inner one after so_far more : Text)
    → IsNestConverted v layout rest inner one after → more ≡ so_far ++ one → AreSoFar v layout text rest so_far
    → AreSoFar v layout text after more
more_nests v layout text rest inner one after so_far more is longer before = record {
  others = λ new last are.
      subst (λ t. AreNestsConverted v layout text t last)
      (regrouped so_far one new ∙ ap (λ t. t ++ new) (sym longer))
      (before.others (one ++ new) last
      (record { nested = inner ∷ are.nested; converted = (one, after, new, is, are.converted, refl) }));
}

pub closed : (v : DescriptionVersion) (layout : Layout) (text rest white closing last so_far with_white new : Text)
    → IsCut is_white rest white closing → closing ≡ right ∷ last → with_white ≡ so_far ++ white
    → new ≡ with_white ++ codes "]" → AreSoFar v layout text rest so_far → AreNestsConverted v layout text new last
closed v layout text rest white closing last so_far with_white new parts closes longer is before =
    subst (λ t. AreNestsConverted v layout text t last)
    (regrouped so_far white (codes "]") ∙ ap (λ t. t ++ codes "]") (sym longer) ∙ sym is)
    (before.others (white ++ codes "]") last (record {
      nested = [];
      converted = (white, parts.passes, parts.whole ∙ ap (λ t. white ++ t) closes, refl);
    }))

-- An item.
pub is_item : (v : DescriptionVersion) (layout : Layout) (text name nested others new rest : Text)
    → BeginsNamed text name nested → AreNestsConverted v layout nested others rest
    → new ≡ codes "[" ++ (name ++ others) → IsItemConverted v layout text new rest
is_item v layout text name nested others new rest named converted is = record {
  name = name;
  nested = nested;
  others = others;
  named = named;
  converted = converted;
  so = is;
}

-- The text around items.

pub at_once : (most : ℕ) (v : DescriptionVersion) (layout : Layout) (text answer : Text)
    → IsConverted layout text answer → IsConvertedWithin most v layout text answer
at_once zero v layout text answer is = is
at_once (suc n) v layout text answer is = inl is

pub one_more : (most n : ℕ) (v : DescriptionVersion) (layout : Layout) (text answer : Text) → (most ≡ 0 → ⊥)
    → n ≡ most - 1 → IsSetAside (IsConvertedWithin n v layout) n v layout text answer
    → IsConvertedWithin most v layout text answer
one_more zero n v layout text answer none is aside = absurd (none refl)
one_more (suc m) n v layout text answer none is aside =
    let same : n ≡ m = omega (arith, is) in
    inr (subst (λ k. IsSetAside (IsConvertedWithin k v layout) k v layout text answer) same aside)

pub cut_at : (p text : Text) (found : Option (Bor (List ℕ) × Bor (List ℕ))) (before after : Bor (List ℕ))
    → MatchOption found ((xs ys : List ℕ) → text ≡ xs ++ (p ++ ys) → ⊥) (λ x. text ≡ x.0.now ++ (p ++ x.1.now))
    → found ≡ Some (before, after) → text ≡ before.now ++ (p ++ after.now)
cut_at p text found before after is some =
    subst (λ f. MatchOption f ((xs ys : List ℕ) → text ≡ xs ++ (p ++ ys) → ⊥) (λ x. text ≡ x.0.now ++ (p ++ x.1.now)))
    some is

pub set_aside : (n index : ℕ) (v : DescriptionVersion) (layout : Layout)
    (text front item new rest marking marked around before after answer : Text)
    → ((f : Fault) × IsItemFault v text f × (index ≡ f.index)) → text ≡ front ++ item → length front ≡ index
    → IsItemConverted v layout item new rest → marking ≡ mark n → marked ≡ front ++ (marking ++ rest)
    → IsConvertedWithin n v layout marked around → around ≡ before ++ (marking ++ after)
    → answer ≡ before ++ (new ++ after) → IsSetAside (IsConvertedWithin n v layout) n v layout text answer
set_aside n index v layout text front item new rest marking marked around before after answer (f, faulty, at) whole long is
    marks joined becomes cut so =
    record {
      fault = f;
      front = front;
      item = item;
      new = new;
      rest = rest;
      before = before;
      after = after;
      faulty = faulty;
      at = long ∙ at;
      whole = whole;
      is = is;
      around = subst (λ t. IsConvertedWithin n v layout (front ++ (t ++ rest)) (before ++ (t ++ after))) marks
          (subst (λ t. IsConvertedWithin n v layout t (before ++ (marking ++ after))) joined
          (subst (λ t. IsConvertedWithin n v layout marked t) cut becomes));
      so = so;
    }

-- A test of the fields one after another is equality if the test of each field is.
use Rattle.std.proofs.Common.{◌≡◌, ◌∙◌, sym, ap, Bool, ◌&&◌}
use Rattle.std.proofs.lemmas.Bool.{and_parts, and_from}
use Rattle.timefd_modifier.specs.Equality.{IsEquality}

pub one : {S A : Type 0} (p : A → A → Bool) (f : S → A) (make : A → S) → ((s : S) → make (f s) ≡ s)
    → IsEquality A p
    → IsEquality S (λ a b. p (f a) (f b))
one p f make whole first = record {
  exact = λ a b. (
    λ e. sym (whole a) ∙ ap make ((first.exact (f a) (f b)).0 e) ∙ whole b,
    λ e. (first.exact (f a) (f b)).1 (ap f e),
  );
}

pub two : {S A B : Type 0} (p : A → A → Bool) (q : B → B → Bool) (f : S → A) (g : S → B) (make : A
    → B → S)
    → ((s : S) → make (f s) (g s) ≡ s) → IsEquality A p → IsEquality B q
    → IsEquality S (λ a b. p (f a) (f b) && q (g a) (g b))
two p q f g make whole first second = record {
  exact = λ a b. (
    λ e.
        let h = and_parts (p (f a) (f b)) (q (g a) (g b)) e in
        sym (whole a) ∙ ap (λ x. make x (g a)) ((first.exact (f a) (f b)).0 h.0) ∙
        ap (make (f b)) ((second.exact (g a) (g b)).0 h.1) ∙ whole b,
    λ e. and_from (p (f a) (f b)) (q (g a) (g b)) ((first.exact (f a) (f b)).1 (ap f e))
        ((second.exact (g a) (g b)).1 (ap g e)),
  );
}

pub three : {S A B C : Type 0} (p : A → A → Bool) (q : B → B → Bool) (r : C → C → Bool) (f : S
    → A) (g : S → B) (h : S → C)
    (make : A → B → C → S) → ((s : S) → make (f s) (g s) (h s) ≡ s) → IsEquality A p
    → IsEquality B q → IsEquality C r
    → IsEquality S (λ a b. p (f a) (f b) && (q (g a) (g b) && r (h a) (h b)))
three p q r f g h make whole first second third = record {
  exact = λ a b. (
    λ e.
        let i = and_parts (p (f a) (f b)) (q (g a) (g b) && r (h a) (h b)) e in
        let j = and_parts (q (g a) (g b)) (r (h a) (h b)) i.1 in
        sym (whole a) ∙ ap (λ x. make x (g a) (h a)) ((first.exact (f a) (f b)).0 i.0)
        ∙ ap (λ x. make (f b) x (h a)) ((second.exact (g a) (g b)).0 j.0)
        ∙ ap (make (f b) (g b)) ((third.exact (h a) (h b)).0 j.1) ∙ whole b,
    λ e.
        and_from (p (f a) (f b)) (q (g a) (g b) && r (h a) (h b))
        ((first.exact (f a) (f b)).1 (ap f e))
        (and_from (q (g a) (g b)) (r (h a) (h b)) ((second.exact (g a) (g b)).1 (ap g e))
        ((third.exact (h a) (h b)).1 (ap h e))),
  );
}

pub five : {S A B C D E : Type 0} (p : A → A → Bool) (q : B → B → Bool) (r : C → C → Bool) (t : D
    → D → Bool) (u : E → E → Bool)
    (f : S → A) (g : S → B) (h : S → C) (k : S → D) (l : S → E) (make : A → B → C → D → E → S)
    → ((s : S) → make (f s) (g s) (h s) (k s) (l s) ≡ s)
    → IsEquality A p → IsEquality B q → IsEquality C r → IsEquality D t → IsEquality E u
    → IsEquality S (λ a b. p (f a) (f b)
    && (q (g a) (g b) && (r (h a) (h b) && (t (k a) (k b) && u (l a) (l b)))))
five p q r t u f g h k l make whole first second third fourth fifth = record {
  exact = λ a b. (
    λ e.
        let w = and_parts (p (f a) (f b))
        (q (g a) (g b) && (r (h a) (h b) && (t (k a) (k b) && u (l a) (l b)))) e in
        let x = and_parts (q (g a) (g b)) (r (h a) (h b) && (t (k a) (k b) && u (l a) (l b))) w.1 in
        let y = and_parts (r (h a) (h b)) (t (k a) (k b) && u (l a) (l b)) x.1 in
        let z = and_parts (t (k a) (k b)) (u (l a) (l b)) y.1 in
        sym (whole a) ∙ ap (λ v. make v (g a) (h a) (k a) (l a)) ((first.exact (f a) (f b)).0 w.0)
        ∙ ap (λ v. make (f b) v (h a) (k a) (l a)) ((second.exact (g a) (g b)).0 x.0)
        ∙ ap (λ v. make (f b) (g b) v (k a) (l a)) ((third.exact (h a) (h b)).0 y.0)
        ∙ ap (λ v. make (f b) (g b) (h b) v (l a)) ((fourth.exact (k a) (k b)).0 z.0)
        ∙ ap (make (f b) (g b) (h b) (k b)) ((fifth.exact (l a) (l b)).0 z.1) ∙ whole b,
    λ e.
        and_from (p (f a) (f b)) (q (g a)
        (g b) && (r (h a) (h b) && (t (k a) (k b) && u (l a) (l b))))
        ((first.exact (f a) (f b)).1 (ap f e))
        (and_from (q (g a) (g b)) (r (h a) (h b) && (t (k a) (k b) && u (l a) (l b)))
        ((second.exact (g a) (g b)).1 (ap g e))
        (and_from (r (h a) (h b)) (t (k a) (k b) && u (l a) (l b))
        ((third.exact (h a) (h b)).1 (ap h e))
        (and_from (t (k a) (k b)) (u (l a) (l b)) ((fourth.exact (k a) (k b)).1 (ap k e))
        ((fifth.exact (l a) (l b)).1 (ap l e))))),
  );
}

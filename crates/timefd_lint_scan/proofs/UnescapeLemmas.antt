-- What the parts so far denote, and what is left of a body.
use Rattle.std.proofs.Common.{ℕ, zero, suc, ◌≡◌, ◌≤◌, ◌-◌, List, [], ◌∷◌, ◌++◌, length, refl, sym, ap, subst, ◌∙◌, append_assoc, append-nil, arith}
use Rattle.std.specs.Prelude.{Option, Some, None}
use Rattle.timefd_lint_scan.specs.declared.part.StringPart as code
use Rattle.timefd_lint_scan.specs.declared.token.LiteralKind.{LiteralKind}
use Rattle.timefd_lint_scan.specs.Bytes.{Text}
use Rattle.timefd_lint_scan.specs.Escapes.{Part, Placed, parted, parted_any, part_of, stands_for, before, all_at, unescaped}

-- The text so far, followed by what the rest denotes, is what the whole body denotes.
pub record Left (kind : LiteralKind) (end : ℕ) (text : Text) (positions : List ℕ) (rest body : Text) : Type 0 where
  pub steps : ℕ
  pub enough : length rest ≤ steps
  pub within : length rest ≤ length body
  pub same : before text positions (unescaped steps kind end rest) ≡ unescaped (length body) kind end body

abbrev both : Text → List ℕ → Option Placed
both text positions = Some (record { text = text; positions = positions })

before_nothing : (r : Option Placed) → before [] [] r ≡ r
before_nothing None = refl
before_nothing (Some p) = refl

before_before : (t u : Text) (p q : List ℕ) (r : Option Placed)
    → before t p (before u q r) ≡ before (t ++ u) (p ++ q) r
before_before t u p q None = refl
before_before t u p q (Some x) =
    ap (λ (s : Text). both s (p ++ (q ++ x.positions))) (sym (append_assoc t u x.text))
    ∙ ap (λ (s : List ℕ). both ((t ++ u) ++ x.text) s) (sym (append_assoc p q x.positions))

pub at_first : (kind : LiteralKind) (end : ℕ) (body : Text) → Left kind end [] [] body body
at_first kind end body = record {
  steps = length body;
  enough = omega arith;
  within = omega arith;
  same = before_nothing _;
}

-- the outcome of one part
abbrev pub go : LiteralKind → ℕ → ℕ → ℕ → Option Part → Option Placed
go kind end position steps None = None
go kind end position steps (Some p) = before p.stands (all_at position p.stands) (unescaped steps kind end p.rest)

pub one_step : (kind : LiteralKind) (end steps b : ℕ) (bytes : Text) (r : Option Part) → r ≡ part_of kind b bytes
    → unescaped (suc steps) kind end (b ∷ bytes) ≡ go kind end (end - length (b ∷ bytes)) steps r
one_step kind end steps b bytes r e = subst
    (λ (t : Option Part). elim t as (λ _. Option Placed) [
      | None ↦ None
      | Some p ↦ before p.stands (all_at (end - length (b ∷ bytes)) p.stands) (unescaped steps kind end p.rest)
    ] ≡ go kind end (end - length (b ∷ bytes)) steps r) e (same r)
  where
    same : (t : Option Part) → elim t as (λ _. Option Placed) [
      | None ↦ None
      | Some p ↦ before p.stands (all_at (end - length (b ∷ bytes)) p.stands) (unescaped steps kind end p.rest)
    ] ≡ go kind end (end - length (b ∷ bytes)) steps t
    same None = refl
    same (Some p) = refl

pub one_more : (kind : LiteralKind) (end : ℕ) (text more_text : Text) (positions more_positions : List ℕ) (b : ℕ)
    (bytes rest body : Text) (r : Option code.StringPart) (p : code.StringPart)
    → Left kind end text positions rest body
    → parted_any r ≡ part_of kind b bytes → r ≡ Some p → rest ≡ b ∷ bytes
    → length p.rest.now ≤ length bytes
    → more_text ≡ text ++ stands_for p.stands
    → more_positions ≡ positions ++ all_at (end - length rest) (stands_for p.stands)
    → Left kind end more_text more_positions p.rest.now body
one_more kind end text more_text positions more_positions b bytes rest body r p l part is split le t q =
    subst (λ (x : Text). Left kind end x more_positions p.rest.now body) (sym t)
    (subst (λ (x : List ℕ). Left kind end (text ++ stands_for p.stands) x p.rest.now body) (sym q)
    (subst (λ (x : Text). Left kind end (text ++ stands_for p.stands)
    (positions ++ all_at (end - length x) (stands_for p.stands)) p.rest.now body) (sym split)
    (more l.steps (omega (arith, l.enough, ap length split))
    (subst (λ (x : Text). before text positions (unescaped l.steps kind end x) ≡ unescaped (length body) kind end body) split l.same))))
  where
    more : (steps : ℕ) → length (b ∷ bytes) ≤ steps
        → before text positions (unescaped steps kind end (b ∷ bytes)) ≡ unescaped (length body) kind end body
        → Left kind end (text ++ stands_for p.stands)
        (positions ++ all_at (end - length (b ∷ bytes)) (stands_for p.stands)) p.rest.now body
    more zero enough same = absurd (omega arith)
    more (suc steps) enough same = record {
      steps = steps;
      enough = omega arith;
      within = omega (arith, l.within, ap length split);
      same = sym (before_before text (stands_for p.stands) positions
          (all_at (end - length (b ∷ bytes)) (stands_for p.stands))
          (unescaped steps kind end p.rest.now))
          ∙ (ap (before text positions) (sym (one_step kind end steps b bytes (Some (parted p)) (sym (ap parted_any is) ∙ part)))
          ∙ same);
    }

pub faulty : (kind : LiteralKind) (end : ℕ) (text : Text) (positions : List ℕ) (b : ℕ) (bytes rest body : Text)
    (r : Option code.StringPart)
    → Left kind end text positions rest body
    → parted_any r ≡ part_of kind b bytes → r ≡ None → rest ≡ b ∷ bytes
    → None ≡ unescaped (length body) kind end body
faulty kind end text positions b bytes rest body r l part is split =
    more l.steps (subst (λ (x : Text). before text positions (unescaped l.steps kind end x) ≡ unescaped (length body) kind end body) split l.same)
  where
    more : (steps : ℕ)
        → before text positions (unescaped steps kind end (b ∷ bytes)) ≡ unescaped (length body) kind end body
        → None ≡ unescaped (length body) kind end body
    more zero same = same
    more (suc steps) same =
        ap (before text positions) (sym (one_step kind end steps b bytes None (sym (ap parted_any is) ∙ part))) ∙ same

pub at_last : (kind : LiteralKind) (end : ℕ) (text : Text) (positions : List ℕ) (rest body : Text)
    → Left kind end text positions rest body → rest ≡ []
    → Some (record { text = text; positions = positions }) ≡ unescaped (length body) kind end body
at_last kind end text positions rest body l split =
    more l.steps (subst (λ (x : Text). before text positions (unescaped l.steps kind end x) ≡ unescaped (length body) kind end body) split l.same)
  where
    nothing_more : both text positions ≡ both (text ++ []) (positions ++ [])
    nothing_more = ap (λ (s : Text). both s positions) (sym (append-nil text))
        ∙ ap (λ (s : List ℕ). both (text ++ []) s) (sym (append-nil positions))

    more : (steps : ℕ)
        → before text positions (unescaped steps kind end []) ≡ unescaped (length body) kind end body
        → Some (record { text = text; positions = positions }) ≡ unescaped (length body) kind end body
    more zero same = nothing_more ∙ same
    more (suc steps) same = nothing_more ∙ same

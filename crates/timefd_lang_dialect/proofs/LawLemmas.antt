-- A format has at most one answer.
use Rattle.std.proofs.Common.{ℕ, ◌≡◌, ◌+◌, List, [], ◌∷◌, length, refl, sym, ap, ◌∙◌, subst, arith}
use Rattle.timefd_lang_component.specs.Tree.{Text}
use Rattle.timefd_lang_dialect.specs.declared.dialect.Dialect.{Dialect}
use Rattle.timefd_lang_dialect.specs.declared.reason.Reason.{Reason}
use Rattle.timefd_lang_dialect.specs.Laws.{OneAnswer}
use Rattle.timefd_lang_dialect.proofs.ExistsLemmas.{answer_law}
use Rattle.timefd_lang_dialect.specs.Reading.{Piece, ended, piece, refused_for, front_of, Leads, Means, RefusedAt}

-- the front is no piece
abbrev IsStopped : Dialect → Text → Type 0
IsStopped dialect text = (p : Piece) (rest : Text) → ¬ (front_of dialect text ≡ piece p rest)

end_stops : (dialect : Dialect) → IsStopped dialect []
end_stops dialect p rest e = cc

refusal_stops : (dialect : Dialect) (text : Text) (reason : Reason)
    → front_of dialect text ≡ refused_for reason → IsStopped dialect text
refusal_stops dialect text reason is p rest e = cc

one_piece : (p q : Piece) (r s : Text) → piece p r ≡ piece q s → (p ≡ q) × (r ≡ s)
one_piece p q r s e = (cc, cc)

one_way : (dialect : Dialect) (text : Text) (ps qs : List Piece) (r s : Text)
    → Leads dialect text ps r → Leads dialect text qs s → IsStopped dialect r
    → IsStopped dialect s → (ps ≡ qs) × (r ≡ s)
one_way dialect text [] [] r s a b stop_r stop_s = (refl, sym a ∙ b)
one_way dialect text [] (q ∷ qs) r s a b stop_r stop_s =
    absurd (stop_r q b.0 (ap (front_of dialect) (sym a) ∙ b.1))
one_way dialect text (p ∷ ps) [] r s a b stop_r stop_s =
    absurd (stop_s p a.0 (ap (front_of dialect) (sym b) ∙ a.1))
one_way dialect text (p ∷ ps) (q ∷ qs) r s a b stop_r stop_s =
    let first = one_piece p q a.0 b.0 (sym a.1 ∙ b.1) in
    let more = one_way dialect a.0 ps qs r s a.2
    (subst (λ t. Leads dialect t qs s) (sym first.1) b.2) stop_r stop_s in
    (ap (λ x. x ∷ ps) first.0 ∙ ap (λ x. q ∷ x) more.0, more.1)

one_reason : (r s : Reason) → refused_for r ≡ refused_for s → r ≡ s
one_reason r s e = cc

one_index : (i j n : ℕ) (a b : Text) → a ≡ b → i + length a ≡ n → j + length b ≡ n → i ≡ j
one_index i j n a b e x y = omega (arith, ap length e, x, y)

pub one_meaning_law : (dialect : Dialect) (text : Text) (ps qs : List Piece)
    → Means dialect text ps → Means dialect text qs → ps ≡ qs
one_meaning_law dialect text ps qs a b =
    (one_way dialect text ps qs [] [] a b (end_stops dialect) (end_stops dialect)).0

pub one_refusal_law : (dialect : Dialect) (text : Text) (r s : Reason) (i j : ℕ)
    → RefusedAt dialect text r i → RefusedAt dialect text s j → (r ≡ s) × (i ≡ j)
one_refusal_law dialect text r s i j a b =
    let way = one_way dialect text a.0 b.0 a.1 b.1 a.2 b.2
    (refusal_stops dialect a.1 r a.3) (refusal_stops dialect b.1 s b.3) in (
      one_reason r s (sym a.3 ∙ ap (front_of dialect) way.1 ∙ b.3),
      one_index i j (length text) a.1 b.1 way.1 a.4 b.4,
    )

pub not_both_law : (dialect : Dialect) (text : Text) (ps : List Piece) (r : Reason) (i : ℕ)
    → Means dialect text ps → ¬ (RefusedAt dialect text r i)
not_both_law dialect text ps r i a b =
    let way = one_way dialect text ps b.0 [] b.1 a b.2 (end_stops dialect)
    (refusal_stops dialect b.1 r b.3) in
    no_end (ap (front_of dialect) way.1 ∙ b.3)
  where
    no_end : ¬ (ended ≡ refused_for r)
    no_end e = cc

pub one_answer_law : (dialect : Dialect) (text : Text) → OneAnswer dialect text
one_answer_law dialect text = record {
  answer = answer_law dialect text;
  one_meaning = one_meaning_law dialect text;
  one_refusal = one_refusal_law dialect text;
  not_both = not_both_law dialect text;
}

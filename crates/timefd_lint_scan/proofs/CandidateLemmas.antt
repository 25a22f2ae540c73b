-- Descriptions in a walk over tokens.
use Rattle.std.proofs.Common.{ℕ, ◌≡◌, ◌∙◌, ◌+◌, ◌<◌, ◌≤◌, ◌++◌, List, [], ◌∷◌, ap, append_assoc, append-nil, drop, get_or, length, nat_le, true, false, inl}
use Rattle.std.proofs.Common.{inr, refl, subst, sym, arith}
use Rattle.std.proofs.lemmas.Bool.{cases_Bool}
use Rattle.std.proofs.lemmas.Bool.Decides.{nat_tests}
use Rattle.std.proofs.lemmas.List.{drop_all, drop_more}
use Rattle.std.proofs.lemmas.List.Elements.{All-cons, All-nil}
use Rattle.std.specs.declared.alloc.AllocError.{AllocError}
use Rattle.std.specs.declared.alloc.Global.{Global}
use Rattle.std.specs.declared.vec.Vec.{Vec}
use Rattle.std.specs.Option.{option_to_list}
use Rattle.std.specs.Prelude.{IfOk, Option, Some, None, Result, Ok, Err}
use Rattle.timefd_lint_scan.specs.declared.alias.Alias.{Alias}
use Rattle.timefd_lint_scan.specs.declared.calls.OpenBracket.{OpenBracket}
use Rattle.timefd_lint_scan.specs.declared.candidate.CandidateLiteral.{CandidateLiteral}
use Rattle.timefd_lint_scan.specs.declared.description.SourceDescription.{SourceDescription}
use Rattle.timefd_lint_scan.specs.declared.dialect.FormatLanguage.{FormatLanguage}
use Rattle.timefd_lint_scan.specs.declared.marks.LanguageMark.{LanguageMark}
use Rattle.timefd_lint_scan.specs.declared.own_call.OwnCall.{OwnCall}
use Rattle.timefd_lint_scan.specs.declared.piece.PlacedToken.{PlacedToken}
use Rattle.timefd_lint_scan.specs.declared.uses.Use.{Use}
use Rattle.timefd_lint_scan.specs.Between.{IsBetween}
use Rattle.timefd_lint_scan.specs.Bytes.{Text}
use Rattle.timefd_lint_scan.specs.Candidates.{candidate_at, candidates_by, candidates_from}
use Rattle.timefd_lint_scan.specs.Escapes.{Placed}
use Rattle.timefd_lint_scan.specs.Flows.{outermost}
use Rattle.timefd_lint_scan.specs.Found.{AllStandIn, AreDescribed, AreInOrder, IsAnyDescribed, IsDescribed, IsOfText}
use Rattle.timefd_lint_scan.specs.Found.{StandsIn, begin_of, begun_after, end_after}
use Rattle.timefd_lint_scan.specs.Frames.{innermost, passed}
use Rattle.timefd_lint_scan.specs.Literals.{literal_text}
use Rattle.timefd_lint_scan.specs.Marks.{still_open, reported_at}
use Rattle.timefd_lint_scan.specs.Versions.{IsSaid}

-- What is found so far, followed by what is found from an index on, is all that there is.
pub record AreSoFar (source : Text) (ps : List PlacedToken) (aliases : List Alias) (own : List OwnCall) (us : List Use) (comments : List LanguageMark)
    (i : ℕ) (frames : List OpenBracket) (counting : List LanguageMark) (end : ℕ) (so_far : List SourceDescription) : Type 0 where
  pub others : (rest : List SourceDescription)
      → AreDescribed source end (candidates_from source ps aliases own us i (drop i ps) frames counting) rest
      → AreDescribed source 0 (candidates_by source ps aliases own us comments) (so_far ++ rest)

pub at_first : (source : Text) (ps : List PlacedToken) (aliases : List Alias) (own : List OwnCall) (us : List Use) (comments : List LanguageMark)
    → AreSoFar source ps aliases own us comments 0 (outermost ∷ []) comments 0 []
at_first source ps aliases own us comments = record { others = λ rest described. described }

one_described : (source : Text) (from : ℕ) (c : Option CandidateLiteral) (answer : Option SourceDescription)
    (cs : List CandidateLiteral) (rest : List SourceDescription) → IsAnyDescribed source c answer
    → AreDescribed source (end_after from (begun_after from answer)) cs rest
    → AreDescribed source from (option_to_list c ++ cs) (option_to_list (begun_after from answer) ++ rest)
one_described source from None answer cs rest is described =
    subst (λ a. AreDescribed source from cs (option_to_list (begun_after from a) ++ rest)) (sym is)
    (subst (λ a. AreDescribed source (end_after from (begun_after from a)) cs rest) is described)
one_described source from (Some c) answer cs rest is described = (answer, rest, is, described, refl)

pub one_more : (source : Text) (ps : List PlacedToken) (aliases : List Alias) (own : List OwnCall) (us : List Use)
    (comments counting still : List LanguageMark) (i : ℕ) (p other : PlacedToken) (before later : List OpenBracket)
    (c : Option CandidateLiteral) (answer : Option SourceDescription) (from next : ℕ)
    (so_far now : List SourceDescription) → i < length ps → p ≡ get_or ps i other
    → later ≡ passed source ps aliases own us i before → still ≡ still_open p.start counting
    → c ≡ candidate_at source ps i p (innermost later) (reported_at still p.start)
    → IsAnyDescribed source c answer → now ≡ so_far ++ option_to_list (begun_after from answer)
    → next ≡ end_after from (begun_after from answer)
    → AreSoFar source ps aliases own us comments i before counting from so_far
    → AreSoFar source ps aliases own us comments (i + 1) later still next now
one_more source ps aliases own us comments counting still i p other before later c answer from next so_far now below at opened left
    known is pushed ends so_far_is = record {
      others = λ rest described.
          let after : List PlacedToken = drop (i + 1) ps in
          let step : List OpenBracket → List LanguageMark → Option CandidateLiteral → List CandidateLiteral =
          λ a s x. option_to_list x ++ candidates_from source ps aliases own us (i + 1) after a s in
          let at_token : List OpenBracket → List LanguageMark → List CandidateLiteral =
          λ a s. step a s (candidate_at source ps i p (innermost a) (reported_at s p.start)) in
          let split : drop i ps ≡ p ∷ after = drop_more ps i other below ∙ ap (λ x. x ∷ after) (sym at) in
          let here : step later still c ≡ candidates_from source ps aliases own us i (drop i ps) before counting =
          ap (step later still) known
          ∙ (ap (λ a. at_token a still) opened
          ∙ (ap (at_token (passed source ps aliases own us i before)) left
          ∙ ap (λ l. candidates_from source ps aliases own us i l before counting) (sym split))) in
          let found : AreDescribed source from (step later still c) (option_to_list (begun_after from answer) ++ rest) =
          one_described source from c answer (candidates_from source ps aliases own us (i + 1) after later still) rest is
          (subst (λ n. AreDescribed source n (candidates_from source ps aliases own us (i + 1) after later still) rest) ends
          described) in
          subst (λ ds. AreDescribed source 0 (candidates_by source ps aliases own us comments) ds)
          (sym (append_assoc so_far (option_to_list (begun_after from answer)) rest) ∙ ap (λ t. t ++ rest) (sym pushed))
          (so_far_is.others (option_to_list (begun_after from answer) ++ rest)
          (subst (λ cs. AreDescribed source from cs (option_to_list (begun_after from answer) ++ rest)) here found));
    }

-- What a token is, by the brackets that are open and the comments that apply to it.
pub reported_at_token : (source bytes : Text) (ps : List PlacedToken) (i : ℕ) (p : PlacedToken) (frames seen : List OpenBracket)
    (frame : Option OpenBracket) (still : List LanguageMark) (dialect : Option FormatLanguage) → bytes ≡ source → seen ≡ frames
    → frame ≡ innermost seen → dialect ≡ reported_at still p.start
    → candidate_at bytes ps i p frame dialect
    ≡ candidate_at source ps i p (innermost frames) (reported_at still p.start)
reported_at_token source bytes ps i p frames seen frame still dialect same all inner known =
    ap (λ s. candidate_at s ps i p frame dialect) same
    ∙ (ap (λ f. candidate_at source ps i p f dialect) (inner ∙ ap innermost all)
    ∙ ap (candidate_at source ps i p (innermost frames)) known)

pub at_last : (source : Text) (ps : List PlacedToken) (aliases : List Alias) (own : List OwnCall) (us : List Use)
    (comments counting : List LanguageMark) (i : ℕ) (frames : List OpenBracket) (from : ℕ) (so_far : List SourceDescription) → length ps ≤ i
    → AreSoFar source ps aliases own us comments i frames counting from so_far
    → AreDescribed source 0 (candidates_by source ps aliases own us comments) so_far
at_last source ps aliases own us comments counting i frames from so_far none is =
    subst (λ ds. AreDescribed source 0 (candidates_by source ps aliases own us comments) ds) (append-nil so_far)
    (is.others []
    (subst (λ l. AreDescribed source from (candidates_from source ps aliases own us i l frames counting) [])
    (sym (drop_all i ps none)) refl))

-- The description of a literal stands in the source.
text_stands : (source : Text) (c : CandidateLiteral) (d : SourceDescription) (text : Option Placed)
    → text ≡ literal_text source c.piece c.kind → IsOfText source c text (Some d) → StandsIn source d
text_stands source c d None of is = elim is [ ]
text_stands source c d (Some t) of is = record {
  text = ap Some is.text ∙ (of ∙ (ap (λ p. literal_text source p c.kind) (sym is.piece)
      ∙ ap (literal_text source d.piece) (sym is.kind)));
  between = subst (λ p. IsBetween source p d.kind d.unescaped.text.items d.unescaped.positions.items) (sym is.piece)
      (subst (λ k. IsBetween source c.piece k d.unescaped.text.items d.unescaped.positions.items) (sym is.kind)
      (subst (λ x. IsBetween source c.piece c.kind x.text x.positions) (sym is.text) is.between));
  version = subst (λ p. IsSaid source p d.dialect d.version) (sym is.piece)
      (subst (λ l. IsSaid source c.piece l d.version) (sym is.dialect) is.said);
}

pub begun : (from : ℕ) (d : SourceDescription) → nat_le from (begin_of d) ≡ true → begun_after from (Some d) ≡ Some d
begun from d pass = rw pass refl

not_begun : (from : ℕ) (d : SourceDescription) → nat_le from (begin_of d) ≡ false → begun_after from (Some d) ≡ None
not_begun from d fail = rw fail refl

pub stands_more : (source : Text) (from : ℕ) (c : CandidateLiteral) (answer : Option SourceDescription) (rest : List SourceDescription)
    → IsDescribed source c answer → AllStandIn source rest
    → AllStandIn source (option_to_list (begun_after from answer) ++ rest)
stands_more source from c None rest is all = all
stands_more source from c (Some d) rest is all =
    let stands : Option SourceDescription → Type 0 = λ o. AllStandIn source (option_to_list o ++ rest) in
    elim (cases_Bool (nat_le from (begin_of d))) [
      | inl pass ↦ subst stands (sym (begun from d pass)) (All-cons (StandsIn source) d rest
          (text_stands source c d (literal_text source c.piece c.kind) refl is) all)
      | inr fail ↦ subst stands (sym (not_begun from d fail)) all
    ]

pub all_stand : (source : Text) (from : ℕ) (cs : List CandidateLiteral) (found : List SourceDescription)
    → AreDescribed source from cs found → AllStandIn source found
all_stand source from [] found none = subst (AllStandIn source) (sym none) (All-nil (StandsIn source))
all_stand source from (c ∷ cs) found (answer, rest, is, more, split) =
    subst (AllStandIn source) (sym split)
    (stands_more source from c answer rest is
    (all_stand source (end_after from (begun_after from answer)) cs rest more))

pub in_order_more : (from : ℕ) (answer : Option SourceDescription) (rest : List SourceDescription)
    → AreInOrder (end_after from (begun_after from answer)) rest
    → AreInOrder from (option_to_list (begun_after from answer) ++ rest)
in_order_more from None rest more = more
in_order_more from (Some d) rest more =
    let in_order : Option SourceDescription → Type 0 =
    λ o. AreInOrder (end_after from o) rest → AreInOrder from (option_to_list o ++ rest) in
    elim (cases_Bool (nat_le from (begin_of d))) [
      | inl pass ↦
          let after : from ≤ begin_of d = grind (arith, nat_tests) in
          subst in_order (sym (begun from d pass)) (λ later. (after, later)) more
      | inr fail ↦ subst in_order (sym (not_begun from d fail)) (λ later. later) more
    ]

pub all_in_order : (source : Text) (from : ℕ) (cs : List CandidateLiteral) (found : List SourceDescription)
    → AreDescribed source from cs found → AreInOrder from found
all_in_order source from [] found none = subst (AreInOrder from) (sym none) tt
all_in_order source from (c ∷ cs) found (answer, rest, is, more, split) =
    subst (AreInOrder from) (sym split)
    (in_order_more from answer rest
    (all_in_order source (end_after from (begun_after from answer)) cs rest more))

-- All descriptions that are found stand in the source.
pub stand_if : (source : Text) (cs : List CandidateLiteral) (found : Result (Vec SourceDescription Global) AllocError)
    → IfOk found (λ ds. AreDescribed source 0 cs ds.items) → IfOk found (λ ds. AllStandIn source ds.items)
stand_if source cs (Ok ds) described = all_stand source 0 cs ds.items described
stand_if source cs (Err e) described = described

-- The descriptions that are found are in order.
pub in_order_if : (source : Text) (cs : List CandidateLiteral) (found : Result (Vec SourceDescription Global) AllocError)
    → IfOk found (λ ds. AreDescribed source 0 cs ds.items) → IfOk found (λ ds. AreInOrder 0 ds.items)
in_order_if source cs (Ok ds) described = all_in_order source 0 cs ds.items described
in_order_if source cs (Err e) described = described

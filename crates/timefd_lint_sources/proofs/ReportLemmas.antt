-- What the linter reports about several descriptions.
use Rattle.std.proofs.Common.{ℕ, ◌≡◌, ◌<◌, ◌≤◌, ◌+◌, List, [], ◌∷◌, ◌++◌, length, drop, get_or, refl, sym, ap, subst, ◌∙◌}
use Rattle.std.proofs.lemmas.List.{append_assoc, append-nil, drop_all, drop_more}
use Rattle.timefd_parse.specs.Tree.{Text}
use Rattle.timefd_lint_scan.specs.declared.description.SourceDescription.{SourceDescription}
use Rattle.timefd_lint_sources.specs.declared.reported.ItemEnd.{ItemEnd}
use Rattle.timefd_lint_sources.specs.declared.reported.SourceText.{SourceText}
use Rattle.timefd_lint_sources.specs.declared.reported.Reporting.{Reporting}
use Rattle.timefd_lint_sources.specs.Items.{IsJudgedAs}
use Rattle.timefd_lint_sources.specs.Reported.{AddsReported, AreReported, AreReportedAs, IsReported}
use Rattle.timefd_lint_sources.proofs.JudgedLemmas as JudgedLemmas

pub adds : (reporting : Reporting) (s : SourceText) (d : SourceDescription) (end : ItemEnd) (one : Text)
    (ends ends' : List ItemEnd) (message message' : Text) → IsReported reporting s d end one
    → ends' ≡ ends ++ (end ∷ []) → message' ≡ message ++ one
    → AddsReported reporting s d ends message ends' message'
adds reporting s d end one ends ends' message message' reported es ms = (end, one, reported, es, ms)

-- What is reported so far, followed by what is reported about the rest, is the whole report.
pub record IsReportedTo (reporting : Reporting) (s : SourceText) (all left : List SourceDescription) (ends : List ItemEnd)
    (message : Text) : Type 0 where
  pub others : (ends' : List ItemEnd) (message' : Text) → AreReported reporting s left ends' message'
      → AreReported reporting s all (ends ++ ends') (message ++ message')

pub at_first : (reporting : Reporting) (s : SourceText) (all : List SourceDescription)
    → IsReportedTo reporting s all all [] []
at_first reporting s all = record { others = λ ends message reported. reported }

pub one_more : (reporting : Reporting) (s : SourceText) (all : List SourceDescription) (i : ℕ)
    (d other : SourceDescription) (ends ends' : List ItemEnd) (message message' : Text) → i < length all
    → d ≡ get_or all i other → IsReportedTo reporting s all (drop i all) ends message
    → AddsReported reporting s d ends message ends' message'
    → IsReportedTo reporting s all (drop (i + 1) all) ends' message'
one_more reporting s all i d other ends ends' message message' below is so_far (end, one, reported, es, ms) =
    let left : drop i all ≡ d ∷ drop (i + 1) all =
    drop_more all i other below ∙ ap (λ x. x ∷ drop (i + 1) all) (sym is) in
    let so_far' : IsReportedTo reporting s all (d ∷ drop (i + 1) all) ends message =
    subst (λ l. IsReportedTo reporting s all l ends message) left so_far in
    record {
      others = λ e m others.
          subst (λ x. AreReported reporting s all x (message' ++ m))
          (sym (append_assoc ends (end ∷ []) e) ∙ ap (λ x. x ++ e) (sym es))
          (subst (λ x. AreReported reporting s all (ends ++ end ∷ e) x)
          (sym (append_assoc message one m) ∙ ap (λ x. x ++ m) (sym ms))
          (so_far'.others (end ∷ e) (one ++ m) (one, m, reported, others, refl)));
    }

pub at_last : (reporting : Reporting) (s : SourceText) (all : List SourceDescription) (i : ℕ) (ends : List ItemEnd)
    (message : Text) → length all ≤ i → IsReportedTo reporting s all (drop i all) ends message
    → AreReported reporting s all ends message
at_last reporting s all i ends message none so_far =
    let last : AreReported reporting s all (ends ++ []) (message ++ []) =
    (subst (λ l. IsReportedTo reporting s all l ends message) (drop_all i all none) so_far).others [] []
    refl in
    subst (λ x. AreReported reporting s all x message) (append-nil ends)
    (subst (λ x. AreReported reporting s all (ends ++ []) x) (append-nil message) last)

-- One more description, after those whose report is known.
reported_more : (reporting : Reporting) (s : SourceText) (d : SourceDescription) (end : ItemEnd) (one : Text)
    → IsReported reporting s d end one → (ds : List SourceDescription) (ends : List ItemEnd) (message : Text)
    → AreReported reporting s ds ends message
    → AreReported reporting s (ds ++ d ∷ []) (ends ++ end ∷ []) (message ++ one)
reported_more reporting s d end one is [] [] message none =
    (one, [], is, refl, ap (λ m. m ++ one) none ∙ sym (append-nil one))
reported_more reporting s d end one is [] (e ∷ ends) message none = absurd none
reported_more reporting s d end one is (c ∷ ds) [] message none = absurd none
reported_more reporting s d end one is (c ∷ ds) (e ∷ ends) message (first, rest, here, others, whole) = (
  first,
  rest ++ one,
  here,
  reported_more reporting s d end one is ds ends rest others,
  ap (λ m. m ++ one) whole ∙ append_assoc first rest one,
)

pub none_reported : (reporting : Reporting) (s : SourceText) → AreReportedAs reporting s [] [] []
none_reported reporting s = record { judged = []; are = refl; reported = refl }

pub one_more_reported : (reporting : Reporting) (s : SourceText) (ds : List SourceDescription) (d one : SourceDescription)
    (ends ends' : List ItemEnd) (message message' : Text) → IsJudgedAs d one
    → AddsReported reporting s one ends message ends' message' → AreReportedAs reporting s ds ends message
    → AreReportedAs reporting s (ds ++ d ∷ []) ends' message'
one_more_reported reporting s ds d one ends ends' message message' is (end, said, reported, es, ms) so_far = record {
  judged = so_far.judged ++ one ∷ [];
  are = JudgedLemmas.one_more ds so_far.judged (so_far.judged ++ one ∷ []) d one so_far.are is refl;
  reported =
      subst (λ x. AreReported reporting s (so_far.judged ++ one ∷ []) x message') (sym es)
      (subst (λ x. AreReported reporting s (so_far.judged ++ one ∷ []) (ends ++ end ∷ []) x) (sym ms)
      (reported_more reporting s one end said reported so_far.judged ends message so_far.reported));
}

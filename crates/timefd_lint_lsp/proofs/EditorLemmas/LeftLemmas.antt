-- What comments don't allow.
use Rattle.std.proofs.Common.{◌≡◌, ◌++◌, List, [], Option, Result, Ok, Err, flat_map, refl, ap, subst, ◌∙◌}
use Rattle.std.specs.Prelude.{IfOk, OnOk}
use Rattle.std.specs.declared.alloc.Global.{Global}
use Rattle.std.specs.declared.vec.Vec.{Vec}
use Rattle.timefd_parse.specs.Tree.{Text}
use Rattle.timefd_lint_scan.specs.declared.description.SourceDescription.{SourceDescription}
use Rattle.timefd_lang_warnings.specs.declared.levels.Levels.{Levels}
use Rattle.timefd_lint_sources.specs.declared.reported.SourceText.{SourceText}
use Rattle.timefd_lint_sources.specs.Allowances.Found.{AreAllowances}
use Rattle.timefd_lint_sources.specs.declared.remark.Remark.{Remark}
use Rattle.timefd_lint_sources.specs.Reported.{AreJudgedIn, AreRemarksOn}
use Rattle.timefd_lint_lsp.specs.declared.editor.finding.Finding.{Finding}
use Rattle.timefd_lint_lsp.specs.Editor.Each.{Adds, AreOf}
use Rattle.timefd_lint_lsp.specs.Editor.Remarked.{IsRemarked}
use Rattle.timefd_lint_lsp.specs.Editor.Findings.{AreFindingsLeft, AreFindingsOf, AreLeftOn, AreOn, unless_allowed}

-- The findings on a description are filtered.
pub adds_left : {R E : Type 0} (levels : Option Levels) (s : SourceText) (d : SourceDescription) (text : Text)
    (none all before after : List Finding) (done : Result R E) → text ≡ s.text.now → none ≡ []
    → Adds (AreOn levels s.finder text d) none all
    → OnOk done (after ≡ before ++ flat_map (unless_allowed s d) all)
    → OnOk done (Adds (AreLeftOn levels s d) before after)
adds_left levels s d text none all before after (Ok x) here empty (more, are, is) added = (
  flat_map (unless_allowed s d) more,
  (more, subst (λ t. AreOn levels s.finder t d more) here are, refl),
  added ∙ ap (λ l. before ++ flat_map (unless_allowed s d) l) (is ∙ ap (λ n. n ++ more) empty),
)
adds_left levels s d text none all before after (Err e) here empty adds added = tt

-- Nothing was found before.
pub all_left : (levels : Option Levels) (s : SourceText) (text : Text) (ds given : List SourceDescription)
    (remarks those : List Remark) (none some found : List Finding) → AreJudgedIn s ds → given ≡ ds → AreRemarksOn s remarks
    → those ≡ remarks → text ≡ s.text.now → none ≡ [] → Adds (AreOf (AreLeftOn levels s) given) none some
    → Adds (AreOf (IsRemarked text) those) some found → AreFindingsLeft levels s found
all_left levels s text ds given remarks those none some found judged same remarked are_those here empty (one, are, is)
    (rest, errors, then) = record {
      descriptions = ds;
      judged = judged;
      remarks = remarks;
      remarked = remarked;
      on_descriptions = one;
      on_comments = rest;
      reported = subst (λ l. AreOf (AreLeftOn levels s) l one) same are;
      errors =
          subst (λ t. AreOf (IsRemarked t) remarks rest) here
          (subst (λ l. AreOf (IsRemarked text) l rest) are_those errors);
      all = then ∙ ap (λ l. l ++ rest) (is ∙ ap (λ n. n ++ one) empty);
    }

-- The comments are those of the source.
pub of_source : {E : Type 0} (levels : Option Levels) (s here : SourceText) (r : Result (Vec Finding Global) E)
    → here.finder ≡ s.finder → here.text.now ≡ s.text.now
    → AreAllowances here.finder here.text.now here.allowances.now
    → IfOk r (λ found. AreFindingsLeft levels here found.items)
    → IfOk r (λ found. AreFindingsOf levels s found.items)
of_source levels s here (Ok found) by same allowed left =
    record { source = here; finder = by; text = same; allowed = allowed; left = left }
of_source levels s here (Err e) by same allowed left = tt

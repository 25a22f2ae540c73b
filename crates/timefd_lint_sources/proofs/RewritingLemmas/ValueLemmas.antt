-- Values of keys, rewritten.
use Rattle.std.proofs.Common.{ℕ, ◌≡◌, ◌<◌, ◌≤◌, ◌+◌, ◌-◌, List, [], ◌∷◌, ◌++◌, length, take, drop, get_or, refl, sym, ap, subst, ◌∙◌}
use Rattle.std.specs.Prelude.{◌≢◌, IsUtf8, Option, None, Some}
use Rattle.std.proofs.lemmas.List.{append_assoc, append-nil, drop_all, drop_more}
use Rattle.std.specs.declared.alloc.Global.{Global}
use Rattle.std.specs.declared.vec.Vec.{Vec}
use Rattle.timefd_parse.specs.Tree.{Text}
use Rattle.timefd_lint_rewrite.specs.LineChanges.{IsChanged, IsUnchangeable}
use Rattle.timefd_lint_rewrite.specs.declared.line_change.LineChange.{LineChange}
use Rattle.timefd_lint_scan.specs.declared.description.SourceDescription.{SourceDescription}
use Rattle.timefd_lint_scan.specs.declared.keys.format.FileFormat.{FileFormat}
use Rattle.timefd_lint_scan.specs.Keys.Spelled.{IsStringFor, string_end}
use Rattle.timefd_lint_sources.specs.Judged.{text_of}
use Rattle.timefd_lint_sources.specs.Rewriting.Values.{Adds, AreRewritten, IsAnswer, IsAnswerIn, front_of, value_change}
use Rattle.timefd_lint_sources.specs.declared.rewriting.change.Change.{Change}
use Rattle.timefd_lint_sources.specs.declared.rewriting.outcome.Outcome.{Outcome}
use Rattle.timefd_lint_sources.specs.declared.rewriting.outcome.Outcome.TheVariants.{PassedOver, Same, Rewritten, Refused, NotText, NotALiteral}
use Rattle.timefd_lint_sources.specs.declared.rewriting.value.ValueAnswer.{ValueAnswer}
use Rattle.timefd_lint_sources.specs.declared.rewriting.value.ValueAnswer.TheVariants.{Stays, Becomes}

pub by_change : (change : Change) (format : FileFormat) (source : Text) (d : SourceDescription) (found : Option LineChange)
    (c : LineChange) (a : ValueAnswer) → found ≡ value_change change d.dialect → found ≡ Some c
    → IsAnswerIn (Some c) format source d a → IsAnswer change format source d a
by_change change format source d found c a is some answer =
    subst (λ (x : Option LineChange). IsAnswerIn x format source d a) (sym some ∙ is) answer

pub by_none : (change : Change) (format : FileFormat) (source : Text) (d : SourceDescription) (found : Option LineChange)
    → found ≡ value_change change d.dialect → found ≡ None → IsAnswer change format source d (Stays PassedOver)
by_none change format source d found is none =
    subst (λ (x : Option LineChange). IsAnswerIn x format source d (Stays PassedOver)) (sym none ∙ is) (refl, refl)

pub no_text : (change : Change) (format : FileFormat) (source : Text) (d : SourceDescription) (found : Option LineChange)
    (c : LineChange) (text : Text) → found ≡ value_change change d.dialect → found ≡ Some c → text ≡ text_of d
    → ¬ IsUtf8 text → IsAnswer change format source d (Stays NotText)
no_text change format source d found c text is some same none =
    by_change change format source d found c (Stays NotText) is some
    (refl, subst (λ (t : Text). ¬ IsUtf8 t) same none)

pub refused : (c : LineChange) (format : FileFormat) (source : Text) (d : SourceDescription) (text : Text) → text ≡ text_of d
    → IsUtf8 text → IsUnchangeable c text → IsAnswerIn (Some c) format source d (Stays Refused)
refused c format source d text same utf8 is =
    (refl, (subst (λ (t : Text). IsUtf8 t) same utf8, subst (IsUnchangeable c) same is))

pub same : (c : LineChange) (format : FileFormat) (source : Text) (d : SourceDescription) (text new : Text) → text ≡ text_of d
    → IsChanged c text new → new ≡ text → IsAnswerIn (Some c) format source d (Stays Same)
same c format source d text new stands is equal =
    (refl, subst (λ (t : Text). IsChanged c t t) stands (subst (IsChanged c text) equal is))

pub of_text : (c : LineChange) (d : SourceDescription) (text new : Text) → text ≡ text_of d → IsChanged c text new
    → IsChanged c (text_of d) new
of_text c d text new stands is = subst (λ (t : Text). IsChanged c t new) stands is

pub other_text : (d : SourceDescription) (text new : Text) → text ≡ text_of d → new ≢ text → new ≢ text_of d
other_text d text new stands other = subst (λ (t : Text). new ≢ t) stands other

pub becomes : (c : LineChange) (format : FileFormat) (source : Text) (d : SourceDescription) (new : Text) (string : Vec ℕ Global)
    → IsChanged c (text_of d) new → new ≢ text_of d → IsStringFor format source d.piece.start new (Some string)
    → IsAnswerIn (Some c) format source d (Becomes string)
becomes c format source d new string is other found = (new, is, other, (string, found, refl))

pub no_string : (c : LineChange) (format : FileFormat) (source : Text) (d : SourceDescription) (new : Text)
    → IsChanged c (text_of d) new → new ≢ text_of d → IsStringFor format source d.piece.start new None
    → IsAnswerIn (Some c) format source d (Stays NotALiteral)
no_string c format source d new is other none = (refl, (new, is, other, none))

pub stays : (change : Change) (format : FileFormat) (source : Text) (d : SourceDescription) (from : ℕ)
    (outcomes outcomes' : List Outcome) (bytes : Text) (a : ValueAnswer) (o : Outcome)
    → IsAnswer change format source d a → a ≡ Stays o → outcomes' ≡ outcomes ++ (o ∷ [])
    → Adds change format source d from outcomes bytes outcomes' bytes from
stays change format source d from outcomes outcomes' bytes a o answer which pushed =
    let is : IsAnswer change format source d (Stays o) = subst (IsAnswer change format source d) which answer in
    record {
      outcome = o;
      string = None;
      is = is.1;
      more_outcomes = pushed;
      more_bytes = sym (append-nil bytes);
      goes_on = refl;
    }

pub is_put : (change : Change) (format : FileFormat) (source : Text) (d : SourceDescription) (from next : ℕ)
    (outcomes outcomes' : List Outcome) (bytes kept between string after : Text) (a : ValueAnswer) (v : Vec ℕ Global)
    → IsAnswer change format source d a → a ≡ Becomes v → outcomes' ≡ outcomes ++ (Rewritten ∷ [])
    → kept ≡ take (d.piece.start - from) (drop from source) → between ≡ bytes ++ kept → string ≡ v.items
    → after ≡ between ++ string → next ≡ string_end format source d.piece.start d.piece.end
    → Adds change format source d from outcomes bytes outcomes' after next
is_put change format source d from next outcomes outcomes' bytes kept between string after a v answer which pushed
    is_kept first is_string second ends = record {
      outcome = Rewritten;
      string = Some v.items;
      is = subst (IsAnswer change format source d) which answer;
      more_outcomes = pushed;
      more_bytes = second ∙ ap (λ (t : Text). t ++ string) first ∙ append_assoc bytes kept string
          ∙ ap (λ (t : Text). bytes ++ (t ++ string)) is_kept
          ∙ ap (λ (t : Text). bytes ++ (take (d.piece.start - from) (drop from source) ++ t)) is_string;
      goes_on = ends;
    }

-- What is written so far, followed by what is written for the rest, is the whole new file.
pub record AreRewrittenTo (change : Change) (format : FileFormat) (source : Text) (all left : List SourceDescription)
    (outcomes : List Outcome) (bytes : Text) (from : ℕ) : Type 0 where
  pub others : (os : List Outcome) (new : Text) → AreRewritten change format source from left os new
      → AreRewritten change format source 0 all (outcomes ++ os) (bytes ++ new)

pub at_first : (change : Change) (format : FileFormat) (source : Text) (all : List SourceDescription)
    → AreRewrittenTo change format source all all [] [] 0
at_first change format source all = record { others = λ os new are. are }

pub one_more : (change : Change) (format : FileFormat) (source : Text) (all : List SourceDescription) (i : ℕ)
    (d other : SourceDescription) (outcomes outcomes' : List Outcome) (bytes bytes' : Text) (from next : ℕ)
    → i < length all → d ≡ get_or all i other
    → AreRewrittenTo change format source all (drop i all) outcomes bytes from
    → Adds change format source d from outcomes bytes outcomes' bytes' next
    → AreRewrittenTo change format source all (drop (i + 1) all) outcomes' bytes' next
one_more change format source all i d other outcomes outcomes' bytes bytes' from next below is so_far adds =
    let left : drop i all ≡ d ∷ drop (i + 1) all =
    drop_more all i other below ∙ ap (λ x. x ∷ drop (i + 1) all) (sym is) in
    let before : AreRewrittenTo change format source all (d ∷ drop (i + 1) all) outcomes bytes from =
    subst (λ l. AreRewrittenTo change format source all l outcomes bytes from) left so_far in
    let front : Text = front_of source from d adds.string in record {
      others = λ os new are.
          subst (λ x. AreRewritten change format source 0 all x (bytes' ++ new))
          (sym (append_assoc outcomes (adds.outcome ∷ []) os) ∙ ap (λ x. x ++ os) (sym adds.more_outcomes))
          (subst (λ x. AreRewritten change format source 0 all (outcomes ++ adds.outcome ∷ os) x)
          (sym (append_assoc bytes front new) ∙ ap (λ x. x ++ new) (sym adds.more_bytes))
          (before.others (adds.outcome ∷ os) (front ++ new) (
            adds.string,
            new,
            adds.is,
            subst (λ (n : ℕ). AreRewritten change format source n (drop (i + 1) all) os new) adds.goes_on are,
            refl,
          )));
    }

pub at_last : (change : Change) (format : FileFormat) (source : Text) (all : List SourceDescription) (i : ℕ)
    (outcomes : List Outcome) (bytes bytes' rest : Text) (from : ℕ) → length all ≤ i
    → AreRewrittenTo change format source all (drop i all) outcomes bytes from
    → rest ≡ drop from source → bytes' ≡ bytes ++ rest → AreRewritten change format source 0 all outcomes bytes'
at_last change format source all i outcomes bytes bytes' rest from none so_far is written =
    let last : AreRewritten change format source 0 all (outcomes ++ []) (bytes ++ rest) =
    (subst (λ l. AreRewrittenTo change format source all l outcomes bytes from) (drop_all i all none) so_far).others [] rest is in
    subst (λ x. AreRewritten change format source 0 all x bytes') (append-nil outcomes)
    (subst (λ x. AreRewritten change format source 0 all (outcomes ++ []) x) (sym written) last)

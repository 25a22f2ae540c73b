-- The rules of a log, part by part.
use Rattle.std.proofs.Common.{◌≡◌, List, ℕ, ◌++◌, [], refl, ap, subst, ◌∙◌, codes, Option, Result, Ok, Err}
use Rattle.std.specs.Io.KnownBytes.{Appends}
use Rattle.std.specs.Prelude.{IfOk}
use Rattle.std.specs.Result.{OnOk}
use Rattle.std.specs.declared.alloc.Global.{Global}
use Rattle.std.specs.declared.vec.Vec.{Vec}
use Rattle.timefd_parse.specs.Code.{Code}
use Rattle.timefd_lint.specs.Logs.{IsHead, WritesLog, joined, program}
use Rattle.std.proofs.lemmas.List.{append_assoc}
use Rattle.timefd_parse.specs.Codes as faults
use Rattle.timefd_lint_lsp.specs.Editor.Each.{Adds, AreOf}
use Rattle.timefd_parse.specs.Tree.{Text}
use Rattle.timefd_lint.specs.declared.error_code.ErrorCode.{ErrorCode}
use Rattle.timefd_lint.specs.ErrorCodes.{name_of}
use Rattle.timefd_lang_dialect.specs.declared.reason.Reason.{Reason}
use Rattle.timefd_lang_dialect.specs.declared.trap.Trap.{Trap}
use Rattle.timefd_lang_dialect.specs.Reasons as reasons
use Rattle.timefd_lang_dialect.specs.TrapWords as traps
use Rattle.timefd_lint_warnings.specs.Dialects.Codes.{all_reasons}
use Rattle.timefd_lint.specs.Rules.{AreOtherRules, AreRules, IsErrorRule, IsFaultRule, IsReasonRule, IsTrapRule, IsWarningRule, others, own_traps, rule}
use Rattle.timefd_lang_warnings.specs.declared.warning.Warning.{Warning}
use Rattle.timefd_lang_warnings.specs.Explanations.{explanation_of}
use Rattle.timefd_lang_warnings.specs.Codes as warnings

pub all_rules : (before first second third last : List ℕ)
    → Adds (AreOf IsFaultRule faults.all) before first → Adds (AreOf IsErrorRule others) first second
    → Adds (AreOf IsWarningRule warnings.all) second third → Adds AreOtherRules third last
    → Adds AreRules before last
all_rules before first second third last (f, are_f, at_f) (e, are_e, at_e) (w, are_w, at_w) (d, are_d, at_d) = (
  f ++ (e ++ (w ++ d)),
  record {
    faults_text = f;
    others_text = e;
    warnings_text = w;
    dialects_text = d;
    faults = are_f;
    errors = are_e;
    warned = are_w;
    dialects = are_d;
    whole = refl;
  },
  at_d ∙ ap (λ t. t ++ d) (at_w ∙ ap (λ t. t ++ w) (at_e ∙ ap (λ t. t ++ e) at_f))
      ∙ append_assoc ((before ++ f) ++ e) w d ∙ append_assoc (before ++ f) e (w ++ d)
      ∙ append_assoc before f (e ++ (w ++ d)),
)

-- The rules of all lists, if the last call succeeds.
pub rules_added : {T E : Type 0} (answer : Result T E) (before first second third last : List ℕ)
    (fs : List Code) (es : List ErrorCode) (ws : List Warning)
    → fs ≡ faults.all → es ≡ others → ws ≡ warnings.all
    → Adds (AreOf IsFaultRule fs) before first → Adds (AreOf IsErrorRule es) first second
    → Adds (AreOf IsWarningRule ws) second third → OnOk answer (Adds AreOtherRules third last)
    → OnOk answer (Adds AreRules before last)
rules_added (Ok v) before first second third last fs es ws fs_are es_are ws_are of_faults of_errors
    of_warnings of_others =
    all_rules before first second third last
    (subst (λ l. Adds (AreOf IsFaultRule l) before first) fs_are of_faults)
    (subst (λ l. Adds (AreOf IsErrorRule l) first second) es_are of_errors)
    (subst (λ l. Adds (AreOf IsWarningRule l) second third) ws_are of_warnings)
    of_others
rules_added (Err e) before first second third last fs es ws fs_are es_are ws_are of_faults of_errors
    of_warnings of_others =
    of_others

-- The rules on formats of other languages, if the last call succeeds.
all_others : (before middle last : List ℕ) → Adds (AreOf IsReasonRule all_reasons) before middle
    → Adds (AreOf IsTrapRule own_traps) middle last → Adds AreOtherRules before last
all_others before middle last (r, are_r, at_r) (t, are_t, at_t) = (
  r ++ t,
  record { reasons_text = r; traps_text = t; refused = are_r; trapped = are_t; whole = refl },
  at_t ∙ ap (λ x. x ++ t) at_r ∙ append_assoc before r t,
)

pub other_rules_added : {T E : Type 0} (answer : Result T E) (before middle last : List ℕ)
    (rs : List Reason) (ts : List Trap) → rs ≡ all_reasons → ts ≡ own_traps
    → Adds (AreOf IsReasonRule rs) before middle → OnOk answer (Adds (AreOf IsTrapRule ts) middle last)
    → OnOk answer (Adds AreOtherRules before last)
other_rules_added (Ok v) before middle last rs ts rs_are ts_are of_reasons of_traps =
    all_others before middle last
    (subst (λ l. Adds (AreOf IsReasonRule l) before middle) rs_are of_reasons)
    (subst (λ l. Adds (AreOf IsTrapRule l) middle last) ts_are of_traps)
other_rules_added (Err e) before middle last rs ts rs_are ts_are of_reasons of_traps = of_traps

-- the part before the results
pub head_joined : {E : Type 0} (answer : Result (Vec ℕ Global) E) (start front members rules : List ℕ)
    → start ≡ [] → front ≡ program → members ≡ rules → Adds AreRules start rules
    → IfOk answer (λ head. head.items ≡ joined front members (codes "]}},\"results\":[\n"))
    → IfOk answer (λ head. IsHead head.items)
head_joined (Ok v) start front members rules none front_is members_are (more, are, added) is = (
  more,
  are,
  is ∙ ap (λ f. joined f members (codes "]}},\"results\":[\n")) front_is
      ∙ ap (λ m. joined program m (codes "]}},\"results\":[\n"))
      (members_are ∙ added ∙ ap (λ s. s ++ more) none),
)
head_joined (Err e) start front members rules none front_is members_are added is = is

-- the log that is written
pub log_written : {T E : Type 0} (answer : Result T E) (results head front log bytes : List ℕ)
    (old new : Option (List ℕ)) → IsHead head → front ≡ head
    → log ≡ joined front results (codes "]}]}\n") → bytes ≡ log
    → OnOk answer (Appends old new bytes) → OnOk answer (WritesLog results old new)
log_written (Ok v) results head front log bytes old new is front_is log_is bytes_are appended = (
  head,
  is,
  subst (λ t. Appends old new t)
      (bytes_are ∙ log_is ∙ ap (λ f. joined f results (codes "]}]}\n")) front_is) appended,
)
log_written (Err e) results head front log bytes old new is front_is log_is bytes_are appended = appended

-- An added rule is the rule of its code.

pub error_rule : (code : ErrorCode) (name level summary explanation : Text) (before after : List ℕ)
    → name ≡ name_of code → level ≡ codes "error"
    → after ≡ before ++ rule name level summary explanation → Adds (IsErrorRule code) before after
error_rule code name level summary explanation before after name_is level_is added = (
  rule (name_of code) (codes "error") summary explanation,
  (summary, explanation, refl),
  added ∙ ap (λ n. before ++ rule n level summary explanation) name_is
      ∙ ap (λ l. before ++ rule (name_of code) l summary explanation) level_is,
)

pub error_added : {T E : Type 0} (answer : Result T E) (code : ErrorCode)
    (name summary explanation : Text) (before after : List ℕ) → name ≡ name_of code
    → OnOk answer (after ≡ before ++ rule name (codes "error") summary explanation)
    → OnOk answer (Adds (IsErrorRule code) before after)
error_added (Ok v) code name summary explanation before after name_is added =
    error_rule code name (codes "error") summary explanation before after name_is refl added
error_added (Err e) code name summary explanation before after name_is added = added

pub warning_rule : (w : Warning) (name level summary explanation : Text) (before after : List ℕ)
    → name ≡ warnings.name_of w → level ≡ codes "warning" → summary ≡ warnings.sentence_of w
    → explanation ≡ explanation_of w → after ≡ before ++ rule name level summary explanation
    → Adds (IsWarningRule w) before after
warning_rule w name level summary explanation before after name_is level_is summary_is explanation_is added = (
  rule (warnings.name_of w) (codes "warning") (warnings.sentence_of w) (explanation_of w),
  refl,
  added ∙ ap (λ n. before ++ rule n level summary explanation) name_is
      ∙ ap (λ l. before ++ rule (warnings.name_of w) l summary explanation) level_is
      ∙ ap (λ s. before ++ rule (warnings.name_of w) (codes "warning") s explanation) summary_is
      ∙ ap (λ e. before ++ rule (warnings.name_of w) (codes "warning") (warnings.sentence_of w) e) explanation_is,
)

-- A rule of which each part is what the tables give.
whole_rule : (name level summary explanation : Text) {n l s e : Text} (before after : List ℕ)
    → n ≡ name → l ≡ level → s ≡ summary → e ≡ explanation → after ≡ before ++ rule n l s e
    → after ≡ before ++ rule name level summary explanation
whole_rule name level summary explanation {n} {l} {s} {e} before after n_is l_is s_is e_is added =
    added ∙ ap (λ x. before ++ rule x l s e) n_is ∙ ap (λ x. before ++ rule name x s e) l_is
    ∙ ap (λ x. before ++ rule name level x e) s_is ∙ ap (λ x. before ++ rule name level summary x) e_is

pub reason_rule : (r : Reason) (name level summary explanation : Text) (before after : List ℕ)
    → name ≡ reasons.name r → level ≡ codes "error" → summary ≡ reasons.sentence r
    → explanation ≡ reasons.cure r → after ≡ before ++ rule name level summary explanation
    → Adds (IsReasonRule r) before after
reason_rule r name level summary explanation before after n_is l_is s_is e_is added = (
  rule (reasons.name r) (codes "error") (reasons.sentence r) (reasons.cure r),
  refl,
  whole_rule (reasons.name r) (codes "error") (reasons.sentence r) (reasons.cure r) before after n_is l_is
      s_is e_is added,
)

pub trap_rule : (t : Trap) (name level summary explanation : Text) (before after : List ℕ)
    → name ≡ traps.name t → level ≡ codes "warning" → summary ≡ traps.sentence t
    → explanation ≡ traps.cure t → after ≡ before ++ rule name level summary explanation
    → Adds (IsTrapRule t) before after
trap_rule t name level summary explanation before after n_is l_is s_is e_is added = (
  rule (traps.name t) (codes "warning") (traps.sentence t) (traps.cure t),
  refl,
  whole_rule (traps.name t) (codes "warning") (traps.sentence t) (traps.cure t) before after n_is l_is s_is
      e_is added,
)

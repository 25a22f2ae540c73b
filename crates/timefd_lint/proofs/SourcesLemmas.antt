-- What is reported about sources.
use Rattle.std.proofs.Common.{ℕ, ◌≡◌, ◌<◌, ◌≤◌, ◌+◌, Bool, true, false, ◌||◌, List, [], ◌∷◌, ◌++◌, Option, length, drop, get_or, refl, sym, ap, subst, ◌∙◌, append-nil}
use Rattle.std.specs.Prelude.{All, IfOk, IfSome, IsTrue, IsUtf8, Result, Ok, Err}
use Rattle.std.specs.Io.KnownBytes.{Appends, IsAtEnd}
use Rattle.std.proofs.KnownBytes.{Appends-trans}
use Rattle.std.proofs.lemmas.List.{append_assoc, drop_all, drop_more}
use Rattle.std.proofs.lemmas.List.Elements.{All-append, All-cons, All-head, All-nil, All-tail}
use Rattle.std.proofs.lemmas.Grind.{flat_map-append}
use mathlib.Core.Logic.{inl, inr}
use denote.Ref.{Bor}
use Rattle.timefd_parse.specs.Tree.{Text}
use Rattle.timefd_lint_options.specs.declared.wording.LineLanguage.{LineLanguage}
use Rattle.timefd_lint_scan.specs.declared.description.SourceDescription.{SourceDescription}
use Rattle.timefd_lint_sources.specs.declared.remark.Remark.{Remark}
use Rattle.timefd_lint_sources.specs.declared.source.Report.{Report}
use Rattle.timefd_lint_sources.specs.Remarks.{end_of, ends_of, message_of, messages_of}
use Rattle.timefd_lint_sources.specs.declared.reported.ItemEnd.{ItemEnd}
use Rattle.timefd_lint_sources.specs.declared.reported.Finder.{Finder}
use Rattle.timefd_lint_sources.specs.declared.reported.SourceText.{SourceText}
use Rattle.timefd_lint_sources.specs.declared.reported.Reporting.{Reporting}
use Rattle.timefd_lint_sources.specs.Allowances.Found.{AreAllowances}
use Rattle.timefd_lint_sources.specs.Judged.{text_of}
use Rattle.timefd_lint_sources.specs.Items.{AreJudgedAs}
use Rattle.timefd_lint_sources.specs.Reported.{AllFound, AreSeen, AreReported, IsFound, IsJudgedFound, IsSourceReported}
use Rattle.timefd_lint_sources.specs.Whole.{no_text_note, origin_of}
use Rattle.timefd_lint.specs.declared.line.LintError.{LintError}
use Rattle.timefd_lint.specs.declared.line.TextEnd.{TextEnd}
use Rattle.timefd_lint.specs.declared.line.TextEnd.TheVariants.{NotText, Failed}
use Rattle.timefd_lint.specs.declared.tally.LintTally.{LintTally}
use Rattle.timefd_lint.specs.Sources.{IsNotText, IsOfLiteral, IsOfRemark, IsReported, IsRunOfAny, IsRunOfSource, IsRunWith, IsSaid, IsReportedOfAny, tally_from, tally_of_ends, text_end}
use Rattle.timefd_lint.specs.Reported.{IsRun, IsRunOfAll, IsRunOver, SaysUnread, Reported, both, messages, position, tally_of, tally_of_one}
use Rattle.timefd_lint.proofs.ReportedLemmas.{lines_run, only, read_to_end, run_after, tally_both, tally_one, unread_run, whole_run, whole_text}

-- What is found in the descriptions of a source, one after another.
pub none_found : (ends : List ItemEnd) (tally : LintTally) → tally ≡ tally_of []
    → tally_from tally ends ≡ tally_of_ends ends
none_found ends tally is = ap (λ t. tally_from t ends) is

pub one_found : (all : List ItemEnd) (i : ℕ) (e other : ItemEnd) (came : TextEnd) (tally one sum : LintTally)
    → i < length all → e ≡ get_or all i other → came ≡ text_end e → one ≡ tally_of_one came
    → sum ≡ both tally one → tally_from tally (drop i all) ≡ tally_of_ends all
    → tally_from sum (drop (i + 1) all) ≡ tally_of_ends all
one_found all i e other came tally one sum below is ended found total so_far =
    let left : drop i all ≡ e ∷ drop (i + 1) all =
    drop_more all i other below ∙ ap (λ x. x ∷ drop (i + 1) all) (sym is) in
    ap (λ t. tally_from t (drop (i + 1) all))
    (total ∙ ap (λ t. both tally t) (found ∙ ap tally_of_one ended))
    ∙ sym (ap (λ l. tally_from tally l) left) ∙ so_far

pub all_found : (all : List ItemEnd) (i : ℕ) (tally : LintTally) → length all ≤ i
    → tally_from tally (drop i all) ≡ tally_of_ends all → tally ≡ tally_of_ends all
all_found all i tally none so_far = sym (ap (λ l. tally_from tally l) (drop_all i all none)) ∙ so_far

-- What is written about a source.
pub reported_source : (reporting : Reporting) (s : SourceText) (r : Report) (before after : Option Text)
    (message : Text) (ends : List ItemEnd) (tally : LintTally)
    → AreAllowances s.finder s.text.now s.allowances.now → IsSourceReported reporting s r
    → message ≡ r.message.items → Appends before after message → ends ≡ r.ends.items
    → tally ≡ tally_of_ends ends
    → IsReported s.finder reporting s.file.now s.text.now before after tally
reported_source reporting s r before after message ends tally allowed reported same written same_ends found = (
  s,
  refl,
  refl,
  refl,
  allowed,
  (
    r,
    reported,
    subst (λ m. Appends before after m) same written,
    found ∙ ap tally_of_ends same_ends,
  ),
)

pub noted_no_text : (reporting : Reporting) (name : Bor Text) (before after : Option Text)
    (message text : Text) (tally : LintTally) → text ≡ message
    → message ≡ no_text_note reporting.style (position name 1) → Appends before after text
    → tally ≡ tally_of_one NotText → IsNotText reporting name.now before after tally
noted_no_text reporting name before after message text tally same is written found =
    (name, refl, subst (λ m. Appends before after m) (same ∙ is) written, found)

pub said_of_text : (finder own : Finder) (reporting : Reporting) (name bytes text : Text)
    (before after : Option Text) (tally : LintTally) → own ≡ finder → text ≡ bytes → IsUtf8 text
    → IsReported own reporting name text before after tally
    → IsSaid finder reporting name bytes before after tally
said_of_text finder own reporting name bytes text before after tally by same utf8 reported_source =
    inl (
      subst IsUtf8 same utf8,
      subst (λ t. IsReported finder reporting name t before after tally) same
          (subst (λ f. IsReported f reporting name text before after tally) by reported_source),
    )

pub said_of_no_text : (finder : Finder) (reporting : Reporting) (name bytes : Text)
    (before after : Option Text) (tally : LintTally) → ¬ IsUtf8 bytes
    → IsNotText reporting name before after tally
    → IsSaid finder reporting name bytes before after tally
said_of_no_text finder reporting name bytes before after tally none noted = inr (none, noted)

-- All bytes of a reader are read into an empty buffer.
pub source_read : (finder : Finder) (reporting : Reporting) (name : Text) (bytes rest : Option Text)
    (old read text : Text) (before after : Option Text) (has_failed : Bool) (tally : LintTally)
    → IfSome bytes (λ all. read ≡ old ++ all)
    → IsAtEnd rest → old ≡ [] → text ≡ read → IsSaid finder reporting name text before after tally
    → IsRunOfSource finder reporting name bytes rest has_failed before after tally
source_read finder reporting name bytes rest old read text before after has_failed tally all left none same said =
    inl (text, whole_text bytes old read text all none same, read_to_end bytes rest left, said)

pub source_unread : (finder : Finder) (reporting : Reporting) (name : Bor Text)
    (bytes rest before after : Option Text) (has_failed : Bool) (end : TextEnd) (tally : LintTally)
    → end ≡ Failed → IsTrue has_failed → SaysUnread reporting.style name before after
    → tally ≡ tally_of_one end → IsRunOfSource finder reporting name.now bytes rest has_failed before after tally
source_unread finder reporting name bytes rest before after has_failed end tally failed broken said is =
    inr (
      name,
      refl,
      broken,
      said,
      is ∙ ap tally_of_one failed,
    )

-- the report on each literal, as a report on a text
record AreLiterals (is_whole : Bool) (language : LineLanguage) (comment : Option (Bor Text))
    (reporting : Reporting) (ends : List ItemEnd) (message : Text) : Type 0 where
  reported : List Reported
  each : All (IsReportedOfAny is_whole language comment reporting) reported
  said : message ≡ messages reported
  found : (others : List Reported) → tally_from (tally_of others) ends ≡ tally_of (others ++ reported)

-- Each description that is judged was found.
judged_found : (s : SourceText) (found judged : List SourceDescription) → AllFound s found → AreJudgedAs found judged
    → All (IsJudgedFound s) judged
judged_found s [] judged stand are = subst (All (IsJudgedFound s)) (sym are) (All-nil (IsJudgedFound s))
judged_found s (d ∷ ds) judged stand (one, others, is, are, whole) =
    subst (All (IsJudgedFound s)) (sym whole)
    (All-cons (IsJudgedFound s) one others (d, All-head (IsFound s) d ds stand, is)
    (judged_found s ds others (All-tail (IsFound s) d ds stand) are))

-- Each remark is reported.
remarked : (is_whole : Bool) (language : LineLanguage) (comment : Option (Bor Text)) (reporting : Reporting)
    (s : SourceText) (ds : List SourceDescription) (all front left : List Remark) → AreSeen s ds all
    → AreAllowances s.finder s.text.now s.allowances.now → all ≡ front ++ left
    → AreLiterals is_whole language comment reporting (ends_of left) (messages_of reporting.style s left)
remarked is_whole language comment reporting s ds all front [] seen allowed is = record {
  reported = [];
  each = All-nil (IsReportedOfAny is_whole language comment reporting);
  said = refl;
  found = λ others. sym (ap tally_of (append-nil others));
}
remarked is_whole language comment reporting s ds all front (r ∷ left) seen allowed is =
    let t : Reported = record {
      line = [];
      origin = position s.file 1;
      is_marked = false;
      end = text_end (end_of r);
      message = message_of reporting.style s r;
    } in
    let more : AreLiterals is_whole language comment reporting (ends_of left) (messages_of reporting.style s left) =
    remarked is_whole language comment reporting s ds all (front ++ r ∷ []) left seen allowed
    (is ∙ sym (append_assoc front (r ∷ []) left)) in
    let is_remark : IsOfRemark reporting t = record {
      source = s;
      found = ds;
      remarks = all;
      seen = seen;
      allowed = allowed;
      front = front;
      remark = r;
      rest = left;
      is = is;
      unmarked = refl;
      end = refl;
      message = refl;
    } in
    record {
      reported = t ∷ more.reported;
      each = All-cons (IsReportedOfAny is_whole language comment reporting) t more.reported
          (inr (inr (inr is_remark))) more.each;
      said = ap (λ m. message_of reporting.style s r ++ m) more.said;
      found = λ before.
          ap (λ x. tally_from x (ends_of left))
          (ap (λ x. both (tally_of before) x) (sym (tally_one t)) ∙ tally_both before (t ∷ []))
          ∙ more.found (before ++ t ∷ []) ∙ ap tally_of (append_assoc before (t ∷ []) more.reported);
    }

-- Adds the reports on literals before these.
literals : (is_whole : Bool) (language : LineLanguage) (comment : Option (Bor Text)) (reporting : Reporting)
    (s : SourceText) (ds : List SourceDescription) (ends more_ends : List ItemEnd) (message more_message : Text)
    → AreAllowances s.finder s.text.now s.allowances.now
    → All (IsJudgedFound s) ds → AreReported reporting s ds ends message
    → AreLiterals is_whole language comment reporting more_ends more_message
    → AreLiterals is_whole language comment reporting (ends ++ more_ends) (message ++ more_message)
literals is_whole language comment reporting s [] [] more_ends message more_message allowed stand are after = record {
  reported = after.reported;
  each = after.each;
  said = ap (λ m. m ++ more_message) are ∙ after.said;
  found = after.found;
}
literals is_whole language comment reporting s [] (e ∷ ends) more_ends message more_message allowed stand are after = absurd are
literals is_whole language comment reporting s (d ∷ ds) [] more_ends message more_message allowed stand are after = absurd are
literals is_whole language comment reporting s (d ∷ ds) (e ∷ ends) more_ends message more_message allowed stand
    (one, rest, reported, others, is) after =
    let t : Reported = record {
      line = text_of d;
      origin = origin_of s d;
      is_marked = false;
      end = text_end e;
      message = one;
    } in
    let more : AreLiterals is_whole language comment reporting (ends ++ more_ends) (rest ++ more_message) =
    literals is_whole language comment reporting s ds ends more_ends rest more_message allowed
    (All-tail (IsJudgedFound s) d ds stand) others after in
    let is_literal : IsOfLiteral reporting t = record {
      source = s;
      description = d;
      came = e;
      stands = All-head (IsJudgedFound s) d ds stand;
      allowed = allowed;
      reported = reported;
      line = refl;
      origin = refl;
      unmarked = refl;
      end = refl;
    } in
    record {
      reported = t ∷ more.reported;
      each = All-cons (IsReportedOfAny is_whole language comment reporting) t more.reported
          (inr (inl is_literal)) more.each;
      said = ap (λ m. m ++ more_message) is ∙ append_assoc one rest more_message ∙ ap (λ m. one ++ m) more.said;
      found = λ before.
          ap (λ x. tally_from x (ends ++ more_ends))
          (ap (λ x. both (tally_of before) x) (sym (tally_one t)) ∙ tally_both before (t ∷ []))
          ∙ more.found (before ++ t ∷ []) ∙ ap tally_of (append_assoc before (t ∷ []) more.reported);
    }

-- Runs over texts, and over sources too.
pub of_texts : (is_whole : Bool) (language : LineLanguage) (comment : Option (Bor Text)) (reporting : Reporting)
    (before after : Option Text) (tally : LintTally)
    → IsRun is_whole language comment reporting before after tally
    → IsRunOfAny is_whole language comment reporting before after tally
of_texts is_whole language comment reporting before after tally run = record {
  reported = run.reported;
  each = λ k d below. inl (run.each k d below);
  found = run.found;
  written = run.written;
}

pub of_source : (is_whole : Bool) (language : LineLanguage) (comment : Option (Bor Text)) (reporting : Reporting)
    (finder : Finder) (name : Text) (bytes rest before after : Option Text) (has_failed : Bool) (tally : LintTally)
    → IsRunOfSource finder reporting name bytes rest has_failed before after tally
    → IsRunOfAny is_whole language comment reporting before after tally
of_source is_whole language comment reporting finder name bytes rest before after has_failed tally
    (inl (source, all, read, inl (utf8, (s, f, by, t, allowed, (r, reported, written, found))))) =
    let on_remarks : AreLiterals is_whole language comment reporting (ends_of reported.remarks)
    (messages_of reporting.style s reported.remarks) =
    remarked is_whole language comment reporting s reported.found reported.remarks [] reported.remarks reported.seen allowed refl in
    let are : AreLiterals is_whole language comment reporting (reported.ends ++ ends_of reported.remarks)
    (reported.message ++ messages_of reporting.style s reported.remarks) =
    literals is_whole language comment reporting s reported.descriptions reported.ends (ends_of reported.remarks) reported.message
    (messages_of reporting.style s reported.remarks) allowed
    (judged_found s reported.found reported.descriptions reported.seen.stand reported.judged) reported.reported on_remarks in
    record {
      reported = are.reported;
      each = are.each;
      found = found ∙ ap tally_of_ends reported.all_ends ∙ are.found [];
      written = subst (λ m. Appends before after m) (reported.all_messages ∙ are.said) written;
    }
of_source is_whole language comment reporting finder name bytes rest before after has_failed tally
    (inl (source, all, read, inr (none, (file, same, written, found)))) =
    let t : Reported = record {
      line = source;
      origin = position file 1;
      is_marked = false;
      end = NotText;
      message = no_text_note reporting.style (position file 1);
    } in
    record {
      reported = t ∷ [];
      each = only t (IsReportedOfAny is_whole language comment reporting)
          (inr (inr (inl (record { no_text = none; unmarked = refl; end = refl; message = refl }))));
      found = found ∙ sym (tally_one t);
      written = subst (λ m. Appends before after m) (sym (append-nil t.message)) written;
    }
of_source is_whole language comment reporting finder name bytes rest before after has_failed tally
    (inr (file, same, broken, said, found)) =
    of_texts is_whole language comment reporting before after tally
    (unread_run is_whole language comment reporting file before after tally said found)

any_after : (is_whole : Bool) (language : LineLanguage) (comment : Option (Bor Text)) (reporting : Reporting)
    (before between after : Option Text) (a b : LintTally)
    → IsRunOfAny is_whole language comment reporting before between a
    → IsRunOfAny is_whole language comment reporting between after b
    → IsRunOfAny is_whole language comment reporting before after (both a b)
any_after is_whole language comment reporting before between after a b first second = record {
  reported = first.reported ++ second.reported;
  each = All-append (IsReportedOfAny is_whole language comment reporting) first.reported second.reported first.each
      second.each;
  found = ap (λ t. both t b) first.found ∙ ap (λ t. both (tally_of first.reported) t) second.found
      ∙ tally_both first.reported second.reported;
  written = subst (λ m. Appends before after m)
      (sym (flat_map-append (λ (t : Reported). t.message) first.reported second.reported))
      (Appends-trans before between after _ _ first.written second.written);
}

to_any : (reads is_whole : Bool) (language : LineLanguage) (comment : Option (Bor Text))
    (reporting : Reporting) (before after : Option Text) (tally : LintTally)
    → IsRunWith reads is_whole language comment reporting before after tally
    → IsRunOfAny is_whole language comment reporting before after tally
to_any true is_whole language comment reporting before after tally run = run
to_any false is_whole language comment reporting before after tally run =
    of_texts is_whole language comment reporting before after tally run

-- Two runs in a row read sources if one of them does.
pub with_after : (one other is_whole : Bool) (language : LineLanguage) (comment : Option (Bor Text))
    (reporting : Reporting) (before between after : Option Text) (a b : LintTally)
    → IsRunWith one is_whole language comment reporting before between a
    → IsRunWith other is_whole language comment reporting between after b
    → IsRunWith (one || other) is_whole language comment reporting before after (both a b)
with_after true other is_whole language comment reporting before between after a b first second =
    any_after is_whole language comment reporting before between after a b first
    (to_any other is_whole language comment reporting between after b second)
with_after false true is_whole language comment reporting before between after a b first second =
    any_after is_whole language comment reporting before between after a b
    (of_texts is_whole language comment reporting before between a first) second
with_after false false is_whole language comment reporting before between after a b first second =
    run_after is_whole language comment reporting before between after a b first second

-- A run that reads no source is also one that reads sources or none.
pub with_more : (one other is_whole : Bool) (language : LineLanguage) (comment : Option (Bor Text))
    (reporting : Reporting) (before after : Option Text) (tally : LintTally)
    → IsRunWith one is_whole language comment reporting before after tally
    → IsRunWith (one || other) is_whole language comment reporting before after tally
with_more true other is_whole language comment reporting before after tally run = run
with_more false true is_whole language comment reporting before after tally run =
    of_texts is_whole language comment reporting before after tally run
with_more false false is_whole language comment reporting before after tally run = run

pub with_texts : (reads is_whole : Bool) (language : LineLanguage) (comment : Option (Bor Text))
    (reporting : Reporting) (before after : Option Text) (tally : LintTally)
    → IsRun is_whole language comment reporting before after tally
    → IsRunWith reads is_whole language comment reporting before after tally
with_texts true is_whole language comment reporting before after tally run =
    of_texts is_whole language comment reporting before after tally run
with_texts false is_whole language comment reporting before after tally run = run

pub with_source : (reads is_whole : Bool) (language : LineLanguage) (comment : Option (Bor Text))
    (reporting : Reporting) (finder : Finder) (name : Text) (bytes rest before after : Option Text) (has_failed : Bool)
    (tally : LintTally) → reads ≡ true → IsRunOfSource finder reporting name bytes rest has_failed before after tally
    → IsRunWith reads is_whole language comment reporting before after tally
with_source reads is_whole language comment reporting finder name bytes rest before after has_failed tally is run =
    subst (λ r. IsRunWith r is_whole language comment reporting before after tally) (sym is)
    (of_source is_whole language comment reporting finder name bytes rest before after has_failed tally run)

-- The report on a source, in a run that may have ended early.
pub source_reported : (reads is_whole : Bool) (language : LineLanguage) (comment : Option (Bor Text))
    (reporting : Reporting) (finder : Finder) (name : Text) (bytes rest before after : Option Text) (has_failed : Bool)
    (r : Result LintTally LintError) → reads ≡ true
    → IfOk r (IsRunOfSource finder reporting name bytes rest has_failed before after)
    → IfOk r (IsRunWith reads is_whole language comment reporting before after)
source_reported reads is_whole language comment reporting finder name bytes rest before after has_failed (Ok tally) is run =
    with_source reads is_whole language comment reporting finder name bytes rest before after has_failed tally is
    run
source_reported reads is_whole language comment reporting finder name bytes rest before after has_failed (Err e) is run = tt

pub with_whole : (reads is_whole : Bool) (language : LineLanguage) (comment : Option (Bor Text))
    (reporting : Reporting) (file : Text) (bytes rest before after : Option Text) (has_failed : Bool) (tally : LintTally)
    → reads ≡ false → is_whole ≡ true
    → IsRunOfAll language comment reporting file bytes rest has_failed before after tally
    → IsRunWith reads is_whole language comment reporting before after tally
with_whole reads is_whole language comment reporting file bytes rest before after has_failed tally none is run =
    subst (λ r. IsRunWith r is_whole language comment reporting before after tally) (sym none)
    (whole_run is_whole language comment reporting file bytes rest before after has_failed tally is run)

pub with_lines : (reads is_whole : Bool) (language : LineLanguage) (comment : Option (Bor Text))
    (reporting : Reporting) (file : Text) (bytes rest before after : Option Text) (has_failed : Bool) (tally : LintTally)
    → reads ≡ false → is_whole ≡ false
    → IsRunOver language comment reporting file bytes rest has_failed before after tally
    → IsRunWith reads is_whole language comment reporting before after tally
with_lines reads is_whole language comment reporting file bytes rest before after has_failed tally none is over =
    subst (λ r. IsRunWith r is_whole language comment reporting before after tally) (sym none)
    (lines_run is_whole language comment reporting file bytes rest before after has_failed tally is over)

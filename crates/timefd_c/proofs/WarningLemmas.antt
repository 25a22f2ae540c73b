-- The answer about the warnings of a text.
use Rattle.std.proofs.Common.{ℕ, ◌≡◌, ◌≤◌, ◌++◌, ◌∙◌, Bool, true, false, if◌then◌else◌, List, [], ◌∷◌, Some, IsUtf8, drop, filter, length, map, min, take, refl, sym, ap, subst, arith, inl, inr}
use Rattle.timefd_c.specs.declared.answer.TheConstants.{ACCEPTED, REFUSED, NO_MEMORY}
use Rattle.timefd_c.specs.declared.warning_fields.WarningFields.{WarningFields}
use Rattle.timefd_c.specs.declared.warning_fields.WarningsAnswer.{WarningsAnswer}
use Rattle.timefd_c.specs.Warnings.{IsReported, Warns, fields_of, silent, reported_at, reported_of, warnings_of}
use Rattle.timefd_lang_component.specs.Tree.{Text, Tree}
use Rattle.timefd_parse.specs.Faults.{Fault}
use Rattle.timefd_language.specs.Grammar.{nesting_limit}
use Rattle.timefd_lint_warnings.specs.Found.{found_in, style_of}
use Rattle.timefd_lang_node_list.specs.Leaves.{leaves_in}
use Rattle.timefd_language.specs.declared.description_version.Language.{Language}
use Rattle.timefd_parse.specs.Language.{FaultIn, SpellsIn, amount}
use Rattle.timefd_lang_warnings.specs.declared.levels.Level.{Level}
use Rattle.timefd_lang_warnings.specs.declared.levels.Level.TheVariants.{Allowed, Warned}
use Rattle.timefd_lang_warnings.specs.declared.levels.Levels.{Levels}
use Rattle.timefd_lang_warnings.specs.declared.warned.LanguageStyle.{LanguageStyle}
use Rattle.timefd_lang_warnings.specs.declared.warning.Warning.{Warning}
use Rattle.timefd_lang_warnings.specs.declared.warning.Warning.TheVariants.{NoComponent, OtherLanguage, MonthForMinute, MinuteForMonth, HourWithoutPeriod, PeriodWithHour24, SubsecondWithoutSecond, WeekWithCalendarYear, DateWithIsoYear, ShownTwice, UndeterminedDate, UnsettledWidth, UnsettledYear, DeprecatedComponent}
use Rattle.timefd_lang_warnings.specs.Codes.{all}
use Rattle.timefd_lang_warnings.specs.Levels.{all_at, found, level_of}
use Rattle.timefd_lang_warnings.specs.Warns.{warns}
use Rattle.timefd_lang_warnings.proofs.LevelLemmas.{found_as_defined}

all_warned : (w : Warning) → level_of (all_at Warned) w ≡ Warned
all_warned NoComponent = refl
all_warned OtherLanguage = refl
all_warned MonthForMinute = refl
all_warned MinuteForMonth = refl
all_warned HourWithoutPeriod = refl
all_warned PeriodWithHour24 = refl
all_warned SubsecondWithoutSecond = refl
all_warned WeekWithCalendarYear = refl
all_warned DateWithIsoYear = refl
all_warned ShownTwice = refl
all_warned UndeterminedDate = refl
all_warned UnsettledWidth = refl
all_warned UnsettledYear = refl
all_warned DeprecatedComponent = refl

one_more : (p : Warning → Bool) (w : Warning) (ws : List Warning) (len : ℕ) (level : Level) (b : Bool)
    (nodes_reported : List WarningFields) → p w ≡ b → level ≡ Warned
    → nodes_reported ≡ map (fields_of len) (filter p ws)
    → reported_at (if b then level else Allowed) len w ++ nodes_reported ≡ map (fields_of len) (filter p (w ∷ ws))
one_more p w ws len level true nodes_reported has warned are =
    rw has (rw warned (ap (λ rest. fields_of len w ∷ rest) are))
one_more p w ws len level false nodes_reported has warned are = rw has are

-- What is found in parts, all at one level, are the warnings that the parts have.
reported_as_found : (style : LanguageStyle) (ts : List Tree) (len : ℕ) (ws : List Warning)
    → reported_of (found (all_at Warned) style ts) len ws
    ≡ map (fields_of len) (filter (λ w. warns style w ts) ws)
reported_as_found style ts len [] = refl
reported_as_found style ts len (w ∷ ws) =
    ap (λ level. reported_at level len w ++ reported_of (found (all_at Warned) style ts) len ws)
    (found_as_defined (all_at Warned) style ts w)
    ∙ one_more (λ x. warns style x ts) w ws len (level_of (all_at Warned) w) (warns style w ts)
    (reported_of (found (all_at Warned) style ts) len ws) refl (all_warned w) (reported_as_found style ts len ws)

pub as_found : (language : Language) (text : Text) (list : List Tree) (asked levels : Levels)
    (len : ℕ) (ws : List Warning) (nodes_reported : List WarningFields) → asked ≡ all_at Warned
    → levels ≡ found_in language asked list → len ≡ length text → ws ≡ all
    → nodes_reported ≡ reported_of levels len ws → nodes_reported ≡ warnings_of language text list
as_found language text list asked levels len ws nodes_reported asked_are levels_are len_is ws_are reported_are =
    reported_are
    ∙ ap (λ l. reported_of l len ws) (levels_are ∙ ap (λ a. found_in language a list) asked_are)
    ∙ ap (λ n. reported_of (found_in language (all_at Warned) list) n ws) len_is
    ∙ ap (λ x. reported_of (found_in language (all_at Warned) list) (length text) x) ws_are
    ∙ reported_as_found (style_of language) (leaves_in list) (length text) all

pub is_reported : (language : Language) (text : Text) (list : List Tree)
    (nodes_reported before after : List WarningFields) (value count written : ℕ)
    → nodes_reported ≡ warnings_of language text list → value ≡ amount language list → count ≡ length nodes_reported
    → written ≡ min (length nodes_reported) (length before) → after ≡ take written nodes_reported ++ drop written before
    → IsReported language text list before after
    (record { status = ACCEPTED; value = value; count = count; written = written })
is_reported language text list nodes_reported before after value count written are value_is count_is written_is front =
    inl (
      refl,
      value_is,
      record {
        count = count_is ∙ ap length are;
        written = written_is ∙ ap (λ (t : List WarningFields). min (length t) (length before)) are;
        front = front ∙ ap (λ (t : List WarningFields). take written t ++ drop written before) are;
      },
    )

-- Only warnings that exist are reported.

one_within : (p : Warning → Bool) (w : Warning) (ws : List Warning) (b : Bool) → p w ≡ b
    → length (filter p ws) ≤ length ws → length (filter p (w ∷ ws)) ≤ length (w ∷ ws)
one_within p w ws true has within = rw has (omega (arith, within))
one_within p w ws false has within = rw has (omega (arith, within))

filter_within : (p : Warning → Bool) (ws : List Warning) → length (filter p ws) ≤ length ws
filter_within p [] = omega arith
filter_within p (w ∷ ws) = one_within p w ws (p w) refl (filter_within p ws)

map_length : (len : ℕ) (ws : List Warning) → length (map (fields_of len) ws) ≡ length ws
map_length len [] = refl
map_length len (w ∷ ws) = omega (arith, map_length len ws)

few_reported : (language : Language) (text : Text) (list : List Tree) (before after : List WarningFields)
    (answer : WarningsAnswer) → IsReported language text list before after answer → answer.count ≤ 14
few_reported language text list before after answer (inl nodes_reported) =
    omega (
      arith,
      nodes_reported.2.count,
      map_length (length text) (filter (λ w. warns (style_of language) w (leaves_in list)) all),
      filter_within (λ w. warns (style_of language) w (leaves_in list)) all,
    )
few_reported language text list before after answer (inr none) =
    subst (λ (a : WarningsAnswer). a.count ≤ 14) (sym none.0) (omega arith)

kept_reported : (language : Language) (text : Text) (list : List Tree) (before after : List WarningFields)
    (answer : WarningsAnswer) → IsReported language text list before after answer
    → (answer.status ≡ ACCEPTED → ⊥) → after ≡ before
kept_reported language text list before after answer (inl nodes_reported) not_accepted = absurd (not_accepted nodes_reported.0)
kept_reported language text list before after answer (inr none) not_accepted = none.1

-- A text that spells the list, with this answer.
pub accepting : (language : Language) (bytes : Text) (before after : List WarningFields)
    (answer : WarningsAnswer) (list : List Tree) → IsUtf8 bytes
    → SpellsIn language nesting_limit bytes list
    → ((other : List Tree) → SpellsIn language nesting_limit bytes other
    → IsReported language bytes other before after answer)
    → ((f : Fault) → FaultIn language nesting_limit bytes f → ⊥)
    → Warns (Some language) bytes before after answer
accepting language bytes before after answer list utf8 spelled nodes_reported no_fault =
    let is = nodes_reported list spelled in
    record {
      unknown_kind = λ none. absurd cc;
      not_utf8 = λ some no. absurd (no utf8);
      faulty = λ f h. absurd (no_fault f h.1);
      spelled = λ other h. nodes_reported other h.1;
      kept = kept_reported language bytes list before after answer is;
      few = few_reported language bytes list before after answer is;
    }

-- A text with a fault.
pub refusing : (language : Language) (bytes : Text) (buffer : List WarningFields) (f : Fault)
    → IsUtf8 bytes → ((list : List Tree) → SpellsIn language nesting_limit bytes list → ⊥)
    → ((g : Fault) → FaultIn language nesting_limit bytes g → f ≡ g)
    → Warns (Some language) bytes buffer buffer (silent REFUSED f.index)
refusing language bytes buffer f utf8 not_spelled one = record {
  unknown_kind = λ none. absurd cc;
  not_utf8 = λ some no. absurd (no utf8);
  faulty = λ g h. ap (λ (x : Fault). silent REFUSED x.index) (one g h.1);
  spelled = λ list h. absurd (not_spelled list h.1);
  kept = λ not_accepted. refl;
  few = omega arith;
}

-- A text for which memory ran out.
pub unread : (language : Language) (bytes : Text) (buffer : List WarningFields) → IsUtf8 bytes
    → ((f : Fault) → FaultIn language nesting_limit bytes f → ⊥)
    → Warns (Some language) bytes buffer buffer (silent NO_MEMORY 0)
unread language bytes buffer utf8 no_fault = record {
  unknown_kind = λ none. absurd cc;
  not_utf8 = λ some no. absurd (no utf8);
  faulty = λ f h. absurd (no_fault f h.1);
  spelled = λ list h. inr (refl, refl);
  kept = λ not_accepted. refl;
  few = omega arith;
}

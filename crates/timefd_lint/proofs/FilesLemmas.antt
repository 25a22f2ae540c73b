-- What is reported about files, one after another.
use Rattle.std.proofs.Common.{ℕ, ◌≡◌, ◌∙◌, ◌≤◌, ◌-◌, ◌||◌, Bool, true, false, List, [], ◌∷◌, Option, length, take, drop, get_or, ap, refl, subst, sym, arith}
use Rattle.std.specs.Prelude.{◌⊎◌, IsTrue, codes}
use Rattle.std.proofs.Math.Bool.{or-false, or_assoc}
use Rattle.std.proofs.Math.Seq.{take-length}
use Rattle.std.proofs.lemmas.Slice.Eq.{bytes_eq-Decides}
use Rattle.timefd_lint_options.specs.Words.{is_input}
use mathlib.Core.Logic.{inl, inr}
use denote.Ref.{Bor}
use Rattle.timefd_parse.specs.Tree.{Text}
use Rattle.timefd_lint_options.specs.declared.wording.LineLanguage.{LineLanguage}
use Rattle.timefd_lint_sources.specs.declared.reported.Finder.{Finder}
use Rattle.timefd_lint_sources.specs.declared.reported.Reporting.{Reporting}
use Rattle.timefd_lint.specs.declared.failure.OpenError.{OpenError}
use Rattle.timefd_lint.specs.declared.options.RunOptions.{RunOptions}
use Rattle.timefd_lint.specs.declared.tally.LintTally.{LintTally}
use Rattle.timefd_lint.specs.Files.{IsRunAs, IsRunIn, IsNoted, IsRunOfFile, IsRunOfInputOr, IsRunOfName, IsRunOfNames, input_name}
use Rattle.timefd_lint.specs.Sources.{IsRunOfSource, IsRunWith, any_source, finder_of, is_source}
use Rattle.timefd_lint.specs.Reported.{AreCountedOut, IsRunOfAll, IsRunOn, IsRunOver, Reported, tally_of, both}
use Rattle.timefd_lint.proofs.SourcesLemmas.{with_after, with_more}
use Rattle.timefd_lint.proofs.ReportedLemmas.{lines_on, no_text, whole_on}

-- What is reported about a reader, by its name and as the options ask.
pub in_source : (options : RunOptions) (file : Text) (bytes rest : Option Text) (has_failed : Bool) (before after : Option Text) (tally : LintTally)
    → is_source options file ≡ true
    → IsRunOfSource (finder_of options file) options.reporting file bytes rest has_failed before after tally
    → IsRunIn options file bytes rest has_failed before after tally
in_source options file bytes rest has_failed before after tally is run =
    subst (λ s. IsRunAs s options file bytes rest has_failed before after tally) (sym is) run

pub in_whole : (options : RunOptions) (file : Text) (bytes rest : Option Text) (has_failed : Bool) (before after : Option Text) (tally : LintTally)
    → is_source options file ≡ false → options.is_whole ≡ true
    → IsRunOfAll options.language options.comment options.reporting file bytes rest has_failed before after tally
    → IsRunIn options file bytes rest has_failed before after tally
in_whole options file bytes rest has_failed before after tally none is run =
    subst (λ s. IsRunAs s options file bytes rest has_failed before after tally) (sym none)
    (whole_on options.is_whole options.language options.comment options.reporting file bytes rest before
    after has_failed tally is run)

pub in_lines : (options : RunOptions) (file : Text) (bytes rest : Option Text) (has_failed : Bool) (before after : Option Text) (tally : LintTally)
    → is_source options file ≡ false → options.is_whole ≡ false
    → IsRunOver options.language options.comment options.reporting file bytes rest has_failed before after tally
    → IsRunIn options file bytes rest has_failed before after tally
in_lines options file bytes rest has_failed before after tally none is over =
    subst (λ s. IsRunAs s options file bytes rest has_failed before after tally) (sym none)
    (lines_on options.is_whole options.language options.comment options.reporting file bytes rest before
    after has_failed tally is over)

-- The input's name isn't that of a source.
pub input_alone : (options : RunOptions) (before after : Option Text) (tally : LintTally)
    → options.files.now ≡ []
    → IsRunWith (is_source options input_name) options.is_whole options.language options.comment
    options.reporting before after tally
    → IsRunWith (any_source options options.files.now) options.is_whole options.language options.comment
    options.reporting before after tally
input_alone options before after tally none run =
    subst (λ r. IsRunWith r options.is_whole options.language options.comment options.reporting before
    after tally)
    (or-false (options.is_source || false) ∙ or-false options.is_source ∙ ap (λ names. any_source options names) (sym none)) run

pub input_named : (options : RunOptions) (name : Text) (before after : Option Text) (tally : LintTally)
    → is_input name ≡ true
    → IsRunWith (is_source options input_name) options.is_whole options.language options.comment
    options.reporting before after tally
    → IsRunWith (is_source options name) options.is_whole options.language options.comment
    options.reporting before after tally
input_named options name before after tally is run =
    let same : name ≡ codes "-" = (bytes_eq-Decides name (codes "-")).0 is in
    subst (λ n. IsRunWith (is_source options n) options.is_whole options.language options.comment
    options.reporting before after tally) (sym same) run

pub opened : (opens : Option Text → Bool → Type 0) (fails : OpenError → Type 0) (options : RunOptions)
    (name : Bor Text) (bytes rest : Option Text) (has_failed : Bool) (before after : Option Text)
    (tally : LintTally)
    → opens bytes has_failed → IsRunIn options name.now bytes rest has_failed before after tally
    → IsRunOfFile opens fails options name before after tally
opened opens fails options name bytes rest has_failed before after tally may run =
    inl (bytes, rest, has_failed, may, run)

pub unopened : (opens : Option Text → Bool → Type 0) (fails : OpenError → Type 0) (options : RunOptions)
    (name : Bor Text) (error : OpenError) (before after : Option Text) (tally : LintTally)
    → fails error → IsNoted options name error before after tally
    → IsRunOfFile opens fails options name before after tally
unopened opens fails options name error before after tally may noted = inr (error, may, noted)

-- What a reader reports that has failed by a time is also what one reports that has failed later.
later_cause : (earlier later : Bool) (reported : List Reported) → (IsTrue earlier → IsTrue later)
    → IsTrue earlier ⊎ AreCountedOut reported → IsTrue later ⊎ AreCountedOut reported
later_cause earlier later reported stays (inl broken) = inl (stays broken)
later_cause earlier later reported stays (inr many) = inr many

later_lines : (language : LineLanguage) (comment : Option (Bor Text)) (reporting : Reporting) (file : Text)
    (bytes rest : Option Text) (earlier later : Bool) (before after : Option Text) (tally : LintTally)
    → (IsTrue earlier → IsTrue later)
    → IsRunOver language comment reporting file bytes rest earlier before after tally
    → IsRunOver language comment reporting file bytes rest later before after tally
later_lines language comment reporting file bytes rest earlier later before after tally stays over = record {
  run = over.run;
  lines = over.lines;
  read = over.read;
  marks = over.marks;
  positions = over.positions;
  reasons = over.reasons;
  cause = λ failed. later_cause earlier later over.run.reported stays (over.cause failed);
}

later_whole : (language : LineLanguage) (comment : Option (Bor Text)) (reporting : Reporting) (file : Text)
    (bytes rest : Option Text) (earlier later : Bool) (before after : Option Text) (tally : LintTally)
    → (IsTrue earlier → IsTrue later)
    → IsRunOfAll language comment reporting file bytes rest earlier before after tally
    → IsRunOfAll language comment reporting file bytes rest later before after tally
later_whole language comment reporting file bytes rest earlier later before after tally stays run = record {
  reported = run.reported;
  is_reported = run.is_reported;
  marked = run.marked;
  position = run.position;
  reason = run.reason;
  whole = run.whole;
  found = run.found;
  written = run.written;
  read = run.read;
  cause = λ failed. stays (run.cause failed);
}

later_source : (finder : Finder) (reporting : Reporting) (file : Text)
    (bytes rest : Option Text) (earlier later : Bool) (before after : Option Text) (tally : LintTally)
    → (IsTrue earlier → IsTrue later)
    → IsRunOfSource finder reporting file bytes rest earlier before after tally
    → IsRunOfSource finder reporting file bytes rest later before after tally
later_source finder reporting file bytes rest earlier later before after tally stays (inl said) = inl said
later_source finder reporting file bytes rest earlier later before after tally stays
    (inr (name, same, broken, said, found)) = inr (name, same, stays broken, said, found)

later_on : (is_whole : Bool) (language : LineLanguage) (comment : Option (Bor Text)) (reporting : Reporting)
    (file : Text) (bytes rest : Option Text) (earlier later : Bool) (before after : Option Text) (tally : LintTally)
    → (IsTrue earlier → IsTrue later)
    → IsRunOn is_whole language comment reporting file bytes rest earlier before after tally
    → IsRunOn is_whole language comment reporting file bytes rest later before after tally
later_on true language comment reporting file bytes rest earlier later before after tally stays run =
    later_whole language comment reporting file bytes rest earlier later before after tally stays run
later_on false language comment reporting file bytes rest earlier later before after tally stays run =
    later_lines language comment reporting file bytes rest earlier later before after tally stays run

later_as : (reads : Bool) (options : RunOptions) (file : Text) (bytes rest : Option Text) (earlier later : Bool)
    (before after : Option Text) (tally : LintTally) → (IsTrue earlier → IsTrue later)
    → IsRunAs reads options file bytes rest earlier before after tally
    → IsRunAs reads options file bytes rest later before after tally
later_as true options file bytes rest earlier later before after tally stays run =
    later_source (finder_of options file) options.reporting file bytes rest earlier later before after tally stays
    run
later_as false options file bytes rest earlier later before after tally stays run =
    later_on options.is_whole options.language options.comment options.reporting file bytes rest earlier later
    before after tally stays run

later_input : (is_input : Bool) (opens : Option Text → Bool → Type 0) (fails : OpenError → Type 0)
    (options : RunOptions) (name : Bor Text) (input left : Option Text) (earlier later : Bool)
    (before after : Option Text) (tally : LintTally) → (IsTrue earlier → IsTrue later)
    → IsRunOfInputOr is_input opens fails options name input left earlier before after tally
    → IsRunOfInputOr is_input opens fails options name input left later before after tally
later_input true opens fails options name input left earlier later before after tally stays run =
    later_as (is_source options input_name) options input_name input left earlier later before after tally stays
    run
later_input false opens fails options name input left earlier later before after tally stays run = run

-- the result for the names so far: together with the result for the others it is the result for all
pub record IsRunTo (opens : Text → Option Text → Bool → Type 0) (fails : Text → OpenError → Type 0)
    (options : RunOptions) (all names : List (Bor Text))
    (input left : Option Text) (has_failed : Bool) (before after : Option Text) (tally : LintTally) : Type 0 where
  pub reads : Bool
  pub run : IsRunWith reads options.is_whole options.language options.comment options.reporting before
      after tally
  pub more : (reads || any_source options names) ≡ any_source options all
  pub others : (last end : Option Text) (later : Bool) (sum : LintTally) → (IsTrue has_failed → IsTrue later)
      → IsRunOfNames opens fails options names tally left last later after end sum
      → IsRunOfNames opens fails options all (tally_of []) input last later before end sum

pub no_name : (opens : Text → Option Text → Bool → Type 0) (fails : Text → OpenError → Type 0)
    (options : RunOptions) (all : List (Bor Text)) (input before : Option Text) (has_failed : Bool)
    → IsRunTo opens fails options all all input input has_failed before before (tally_of [])
no_name opens fails options all input before has_failed = record {
  reads = false;
  more = refl;
  run = no_text options.is_whole options.language options.comment options.reporting before;
  others = λ last end later sum stays run. run;
}

pub one_name : (opens : Text → Option Text → Bool → Type 0) (fails : Text → OpenError → Type 0)
    (options : RunOptions) (all rest names : List (Bor Text)) (name : Bor Text)
    (input left next : Option Text) (earlier has_failed : Bool) (before between after : Option Text)
    (tally one sum : LintTally)
    → rest ≡ name ∷ names → sum ≡ both tally one → (IsTrue earlier → IsTrue has_failed)
    → IsRunTo opens fails options all rest input left earlier before between tally
    → IsRunWith (is_source options name.now) options.is_whole options.language options.comment
    options.reporting between after one
    → IsRunOfName opens fails options name left next has_failed between after one
    → IsRunTo opens fails options all names input next has_failed before after sum
one_name opens fails options all rest names name input left next earlier has_failed before between after tally one sum
    is total stays so_far reported run =
    let so_far' : IsRunTo opens fails options all (name ∷ names) input left earlier before between tally =
    subst (λ r. IsRunTo opens fails options all r input left earlier before between tally) is so_far in
    subst (λ t. IsRunTo opens fails options all names input next has_failed before after t) (sym total)
    (record {
      reads = so_far'.reads || is_source options name.now;
      run = with_after so_far'.reads (is_source options name.now) options.is_whole options.language
          options.comment options.reporting before between after tally one so_far'.run reported;
      more = or_assoc so_far'.reads (is_source options name.now) (any_source options names)
          ∙ so_far'.more;
      others = λ last end later s stays_later others.
          so_far'.others last end later s (λ broken. stays_later (stays broken)) (
            one,
            next,
            after,
            later_input (is_input name.now) (opens name.now) (fails name.now) options name left next has_failed later
                between after one stays_later run,
            others,
          );
    })

pub all_names : (opens : Text → Option Text → Bool → Type 0) (fails : Text → OpenError → Type 0)
    (options : RunOptions) (all names : List (Bor Text)) (input left : Option Text) (has_failed : Bool)
    (before after : Option Text) (tally : LintTally) → names ≡ []
    → IsRunTo opens fails options all names input left has_failed before after tally
    → IsRunOfNames opens fails options all (tally_of []) input left has_failed before after tally
all_names opens fails options all names input left has_failed before after tally none so_far =
    (subst (λ n. IsRunTo opens fails options all n input left has_failed before after tally) none so_far).others
    left after has_failed tally (λ broken. broken) (refl, refl, refl)

pub run_of_all : (opens : Text → Option Text → Bool → Type 0) (fails : Text → OpenError → Type 0)
    (options : RunOptions) (all names : List (Bor Text)) (input left : Option Text) (has_failed : Bool)
    (before after : Option Text) (tally : LintTally) → names ≡ []
    → IsRunTo opens fails options all names input left has_failed before after tally
    → IsRunWith (any_source options all) options.is_whole options.language options.comment
    options.reporting before after tally
run_of_all opens fails options all names input left has_failed before after tally none so_far =
    subst (λ r. IsRunWith r options.is_whole options.language options.comment options.reporting before
    after tally)
    (ap (λ n. so_far.reads || any_source options n) (sym none) ∙ so_far.more)
    (with_more so_far.reads options.is_source options.is_whole options.language options.comment
    options.reporting before after tally so_far.run)

-- Splits some names into the first and the rest, like a pattern does.
pub split_names : (rest : List (Bor Text)) (n : ℕ) (d : Bor Text) → n ≡ length rest
    → 1 ≤ length rest → rest ≡ get_or rest 0 d ∷ take (n - 1) (drop 1 rest)
split_names [] n d same some = absurd (omega (arith, some))
split_names (name ∷ rest) n d same some =
    let few : n - 1 ≡ length rest = omega (arith, same) in
    sym (ap (λ k. name ∷ take k rest) few ∙ ap (λ r. name ∷ r) (take-length rest))

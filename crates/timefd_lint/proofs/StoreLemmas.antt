-- Named files that are rewritten, one after another.
use Rattle.std.proofs.Common.{◌≡◌, ◌∷◌, [], Bool, List, Option, Some, inl, refl, sym, subst, string_bytes}
use denote.Ref.{Bor}
use Rattle.timefd_parse.specs.Tree.{Text}
use Rattle.timefd_lint.specs.declared.fix.FixError.{FixError}
use Rattle.timefd_lint.specs.declared.found.FoundInFile.{FoundInFile}
use Rattle.timefd_lint.specs.declared.identity.Identity.{Identity}
use Rattle.timefd_lint.specs.declared.options.RunOptions.{RunOptions}
use Rattle.timefd_lint.specs.declared.output.Audience.{Audience}
use Rattle.timefd_lint.specs.declared.rewriting.Rewriting.{Rewriting}
use Rattle.timefd_lint.specs.declared.tally.LintTally.{LintTally}
use Rattle.timefd_lint.specs.Reported.{both, tally_of}
use Rattle.timefd_lint.specs.Fates.{IsFoundIn, Reports, fate_of}
use Rattle.timefd_lint.specs.Stores.{AreRewritten, IsNameDone, IsReadDone, IsSettled, Stage, stage}

-- The names up to these are done: what becomes of the others decides.
pub record IsDoneTo {S : Type 0} (leads : S → Text → Option Identity → Type 0)
    (one : Bor Text → Stage S → Stage S → LintTally → Type 0) (all rest : List (Bor Text)) (met : List Identity)
    (found : LintTally) (a b : Stage S) : Type 0 where
  pub others : (last : Stage S) (tally : LintTally) → AreRewritten leads one rest met found b last tally
      → AreRewritten leads one all [] (tally_of []) a last tally

pub no_name : {S : Type 0} (leads : S → Text → Option Identity → Type 0)
    (one : Bor Text → Stage S → Stage S → LintTally → Type 0) (all : List (Bor Text)) (met : List Identity)
    (found : LintTally) (a : Stage S) → met ≡ [] → found ≡ tally_of [] → IsDoneTo leads one all all met found a a
no_name leads one all met found a none nothing =
    subst (λ m. IsDoneTo leads one all all m found a a) (sym none)
    (subst (λ f. IsDoneTo leads one all all [] f a a) (sym nothing)
    (record { others = λ last tally rest. rest }))

pub one_name : {S : Type 0} (leads : S → Text → Option Identity → Type 0)
    (one : Bor Text → Stage S → Stage S → LintTally → Type 0) (all rest names : List (Bor Text)) (name : Bor Text)
    (met met' : List Identity) (found this sum : LintTally) (a b c : Stage S)
    → rest ≡ name ∷ names → sum ≡ both found this → IsDoneTo leads one all rest met found a b
    → IsNameDone leads one name met met' b c this → IsDoneTo leads one all names met' sum a c
one_name leads one all rest names name met met' found this sum a b c is total so_far done =
    let so_far' : IsDoneTo leads one all (name ∷ names) met found a b =
    subst (λ r. IsDoneTo leads one all r met found a b) is so_far in
    subst (λ t. IsDoneTo leads one all names met' t a c) (sym total)
    (record { others = λ last tally others. so_far'.others last tally (c, met', this, done, others) })

pub all_names : {S : Type 0} (leads : S → Text → Option Identity → Type 0)
    (one : Bor Text → Stage S → Stage S → LintTally → Type 0) (all rest : List (Bor Text)) (met : List Identity)
    (found : LintTally) (a b : Stage S) → rest ≡ [] → IsDoneTo leads one all rest met found a b
    → AreRewritten leads one all [] (tally_of []) a b found
all_names leads one all rest met found a b none so_far =
    (subst (λ r. IsDoneTo leads one all r met found a b) none so_far).others b found (refl, refl)

-- What becomes of a file in which something is found.
pub found_in : {S : Type 0} (replaces : S → Text → Text → S → Type 0)
    (refuses : S → Text → Text → FixError → S → Type 0) (options : RunOptions) (rewriting : Rewriting)
    (audience : Audience) (name : Bor Text) (old first second : Text) (found : FoundInFile) (store store' : S)
    (said half more last : Option Text) (failed failed_half failed_more failed_last : Bool)
    (before between after : Option Text)
    → IsFoundIn options rewriting name.now old before between (Some found)
    → Reports said half failed_half first → first ≡ string_bytes found.manual
    → Reports half more failed_more second → second ≡ string_bytes found.limits
    → (tally : LintTally) → IsSettled replaces refuses options rewriting audience name old found
    (fate_of rewriting found.counts) (stage store more failed_more between)
    (stage store' last failed_last after) tally
    → IsReadDone replaces refuses options rewriting audience name old (stage store said failed before)
    (stage store' last failed_last after) tally
found_in replaces refuses options rewriting audience name old first second found store store' said half more last failed
    failed_half failed_more failed_last before between after is messages is_first more_messages is_second tally settled =
    inl (record {
      found = found;
      reported = stage store said failed between;
      half = stage store half failed_half between;
      noted = stage store more failed_more between;
      reports = record { store = refl; messages = refl; has_failed = refl };
      is = is;
      manual_notes = record {
        store = refl;
        messages = subst (λ t. Reports said half failed_half t) is_first messages;
        written = refl;
      };
      limit_notes = record {
        store = refl;
        messages = subst (λ t. Reports half more failed_more t) is_second more_messages;
        written = refl;
      };
      settled = settled;
    })

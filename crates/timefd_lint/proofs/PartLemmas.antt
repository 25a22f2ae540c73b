-- The parts of a run, one after another.
use Rattle.std.proofs.Common.{ℕ, ◌≡◌, ◌<◌, length, inl, arith, ◌^◌, ◌-◌, ◌+◌, Bool, true, false, List, [], ◌∷◌, ◌++◌, Option, map, refl, sym, ap, subst, ◌∙◌, append_assoc, append-nil, string_bytes}
use Rattle.std.specs.Prelude.{min, String}
use Rattle.std.proofs.lemmas.List.{map-append}
use denote.Ref.{Bor}
use Rattle.std.specs.declared.alloc.Global.{Global}
use Rattle.timefd_parse.specs.Tree.{Text}
use Rattle.timefd_lint_diagnosis.specs.Words.{texts}
use Rattle.std.specs.declared.io.ErrorKind.{ErrorKind}
use Rattle.timefd_lint_files.specs.declared.entry.FolderEntry.{FolderEntry}
use Rattle.timefd_lint_files.specs.declared.walk_error.WalkError.{WalkError}
use Rattle.timefd_lint_files.specs.declared.walk_error.WalkError.TheVariants.{Memory}
use Rattle.timefd_lint_files.specs.Errors.{OneOf}
use Rattle.timefd_lint_files.proofs.OneOfLemmas.{IsOneTo}
use Rattle.timefd_lint_options.specs.declared.settings.RunSettings.{RunSettings}
use Rattle.timefd_lint_scan.specs.declared.keys.key.DescriptionKey.{DescriptionKey}
use Rattle.timefd_lint.specs.declared.options.RunOptions.{RunOptions}
use Rattle.timefd_lint.specs.declared.parts.RunPart.{RunPart}
use Rattle.timefd_lint.specs.declared.projects.Named.{Named}
use Rattle.timefd_lint.specs.declared.tally.LintTally.{LintTally}
use Rattle.timefd_lint.specs.Parts.{AreOptions, ArePartsOf, AreRun, AreRunFrom, IsOneUnwalked, IsPartOf, IsRunOfPart, IsRunOfPartIf, IsUnwalked, all_files, count_from, file_count_of, is_empty}
use Rattle.timefd_lint.specs.Reported.{both, tally_of}
use Rattle.timefd_lint.specs.Sources.{IsRunWith, any_source}

-- The parts up to these are reported: what becomes of the others decides.
abbrev pub AreRunTo : Bool → List RunPart → List RunPart → Option Text → Option Text → LintTally → Type 0
AreRunTo is_colored all rest before between found = (end : Option Text) (sum : LintTally)
    → AreRunFrom is_colored rest found between end sum → AreRunFrom is_colored all (tally_of []) before end sum

pub no_part : (is_colored : Bool) (all : List RunPart) (before : Option Text) (found : LintTally) → found ≡ tally_of []
    → AreRunTo is_colored all all before before found
no_part is_colored all before found none end sum are =
    subst (λ (t : LintTally). AreRunFrom is_colored all t before end sum) none are

pub one_part : (is_colored : Bool) (all rest parts : List RunPart) (part : RunPart) (before between after : Option Text)
    (found one sum : LintTally) → rest ≡ part ∷ parts → sum ≡ both found one
    → AreRunTo is_colored all rest before between found → IsRunOfPart is_colored part between after one
    → AreRunTo is_colored all parts before after sum
one_part is_colored all rest parts part before between after found one sum split total so_far run end last are =
    so_far end last (subst (λ (r : List RunPart). AreRunFrom is_colored r found between end last) (sym split) (
      one,
      after,
      run,
      subst (λ (t : LintTally). AreRunFrom is_colored parts t after end last) total are,
    ))

pub all_parts : (is_colored : Bool) (all rest : List RunPart) (before after : Option Text) (found : LintTally) → rest ≡ []
    → AreRunTo is_colored all rest before after found → AreRun is_colored all before after found
all_parts is_colored all rest before after found none so_far =
    so_far after found (subst (λ (r : List RunPart). AreRunFrom is_colored r found after after found) (sym none) (refl, refl))

-- a part without files
pub no_file : (is_colored : Bool) (part : RunPart) (before after : Option Text) (tally : LintTally) → is_empty part ≡ true
    → after ≡ before → tally ≡ tally_of [] → IsRunOfPart is_colored part before after tally
no_file is_colored part before after tally none same nothing =
    subst (λ (b : Bool). IsRunOfPartIf b is_colored part before after tally) (sym none) (same, nothing)

pub some_files : (is_colored : Bool) (part : RunPart) (before after : Option Text) (tally : LintTally) (files : List (Bor Text))
    (options : RunOptions) → is_empty part ≡ false → texts files ≡ map string_bytes part.files.items
    → AreOptions is_colored part files options
    → IsRunWith (any_source options options.files.now) options.is_whole options.language options.comment
    options.reporting before after tally
    → IsRunOfPart is_colored part before after tally
some_files is_colored part before after tally files options some spelled by run =
    subst (λ (b : Bool). IsRunOfPartIf b is_colored part before after tally) (sym some)
    (record { files = files; spelled = spelled; options = options; by = by; reported = run })

-- one more part, made for names
abbrev pub ArePartsTo : (Text → List FolderEntry → Type 0) → (Text → Text → Type 0) → (Text → Bool → Type 0) → RunSettings
    → List DescriptionKey → List Named → List Named → List RunPart → Type 0
ArePartsTo lists holds folders settings keys all rest parts = (more : List RunPart)
    → ArePartsOf lists holds folders settings keys rest more → ArePartsOf lists holds folders settings keys all (parts ++ more)

pub none_made : (lists : Text → List FolderEntry → Type 0) (holds : Text → Text → Type 0) (folders : Text → Bool → Type 0)
    (settings : RunSettings) (keys : List DescriptionKey) (all : List Named) (parts : List RunPart) → parts ≡ []
    → ArePartsTo lists holds folders settings keys all all parts
none_made lists holds folders settings keys all parts none more are =
    subst (λ (ps : List RunPart). ArePartsOf lists holds folders settings keys all (ps ++ more)) (sym none) are

pub one_made : (lists : Text → List FolderEntry → Type 0) (holds : Text → Text → Type 0) (folders : Text → Bool → Type 0)
    (settings : RunSettings) (keys : List DescriptionKey) (all rest after : List Named) (named : Named) (part : RunPart)
    (parts new : List RunPart) → rest ≡ named ∷ after → IsPartOf lists holds folders settings keys named part
    → new ≡ parts ++ part ∷ [] → ArePartsTo lists holds folders settings keys all rest parts
    → ArePartsTo lists holds folders settings keys all after new
one_made lists holds folders settings keys all rest after named part parts new split is pushed so_far more are =
    subst (ArePartsOf lists holds folders settings keys all)
    (sym (append_assoc parts (part ∷ []) more) ∙ ap (λ ps. ps ++ more) (sym pushed))
    (so_far (part ∷ more) (subst (λ (r : List Named). ArePartsOf lists holds folders settings keys r (part ∷ more))
    (sym split) (is, are)))

pub all_made : (lists : Text → List FolderEntry → Type 0) (holds : Text → Text → Type 0) (folders : Text → Bool → Type 0)
    (settings : RunSettings) (keys : List DescriptionKey) (all rest : List Named) (parts : List RunPart) → rest ≡ []
    → ArePartsTo lists holds folders settings keys all rest parts → ArePartsOf lists holds folders settings keys all parts
all_made lists holds folders settings keys all rest parts none so_far =
    subst (ArePartsOf lists holds folders settings keys all) (append-nil parts)
    (so_far [] (subst (λ (r : List Named). ArePartsOf lists holds folders settings keys r []) (sym none) tt))

-- one more file's name
pub one_file : (old new : List (Bor Text)) (name : Bor Text) (file : String Global) (after rest : List (String Global))
    (all : List Text) → new ≡ old ++ name ∷ [] → name.now ≡ string_bytes file → rest ≡ file ∷ after
    → texts old ++ map string_bytes rest ≡ all → texts new ++ map string_bytes after ≡ all
one_file old new name file after rest all pushed same split so_far =
    ap (λ ns. texts ns ++ map string_bytes after) pushed
    ∙ (ap (λ ts. ts ++ map string_bytes after) (map-append (λ (n : Bor Text). n.now) old (name ∷ []))
    ∙ (append_assoc (texts old) (name.now ∷ []) (map string_bytes after)
    ∙ (ap (λ it. texts old ++ it ∷ map string_bytes after) same
    ∙ (ap (λ files. texts old ++ map string_bytes files) (sym split) ∙ so_far))))

pub last_file : (names : List (Bor Text)) (rest : List (String Global)) (all : List Text) → rest ≡ []
    → texts names ++ map string_bytes rest ≡ all → texts names ≡ all
last_file names rest all none so_far =
    sym (append-nil (texts names)) ∙ (ap (λ files. texts names ++ map string_bytes files) (sym none) ∙ so_far)

-- the files of one more part
pub files_of_one : (old new : List (Bor Text)) (part : RunPart) (after rest : List RunPart) (all : List Text)
    → texts new ≡ texts old ++ map string_bytes part.files.items → rest ≡ part ∷ after
    → texts old ++ all_files rest ≡ all → texts new ++ all_files after ≡ all
files_of_one old new part after rest all pushed split so_far =
    ap (λ ts. ts ++ all_files after) pushed
    ∙ (append_assoc (texts old) (map string_bytes part.files.items) (all_files after)
    ∙ (ap (λ parts. texts old ++ all_files parts) (sym split) ∙ so_far))

pub files_of_all : (names : List (Bor Text)) (rest : List RunPart) (all : List Text) → rest ≡ []
    → texts names ++ all_files rest ≡ all → texts names ≡ all
files_of_all names rest all none so_far =
    sym (append-nil (texts names)) ∙ (ap (λ parts. texts names ++ all_files parts) (sym none) ∙ so_far)

-- one more part is counted
pub one_counted : (count sum all : ℕ) (part : RunPart) (after rest : List RunPart) → rest ≡ part ∷ after
    → sum ≡ min (count + file_count_of part) (2 ^ 64 - 1) → count_from count rest ≡ all → count_from sum after ≡ all
one_counted count sum all part after rest split is so_far =
    ap (λ n. count_from n after) is ∙ (ap (count_from count) (sym split) ∙ so_far)

pub all_counted : (count all : ℕ) (rest : List RunPart) → rest ≡ [] → count_from count rest ≡ all → count ≡ all
all_counted count all rest none so_far = ap (count_from count) (sym none) ∙ so_far

-- The names of the first of the remaining files of settings lead to what can't be read.
pub unwalked_first : (fails : Text → ErrorKind → Type 0) (all rest after : List Named) (named : Named) (error : WalkError)
    → rest ≡ named ∷ after → IsUnwalked fails named error → IsOneTo (λ named. IsUnwalked fails named error) all rest
    → IsOneUnwalked fails all error
unwalked_first fails all rest after named error split is so_far =
    so_far (subst (OneOf (λ named. IsUnwalked fails named error)) (sym split) (inl is))

-- Memory runs out at the first of them.
pub not_kept : (fails : Text → ErrorKind → Type 0) (all rest after : List Named) (named : Named) (error : WalkError)
    → rest ≡ named ∷ after → error ≡ Memory → IsOneTo (λ named. IsUnwalked fails named error) all rest
    → IsOneUnwalked fails all error
not_kept fails all rest after named error split is so_far =
    unwalked_first fails all rest after named error split (subst (IsUnwalked fails named) (sym is) tt) so_far

pub none_left : (rest : List Named) → length rest < 1 → rest ≡ []
none_left [] few = refl
none_left (named ∷ rest) few = absurd (omega (arith, few))

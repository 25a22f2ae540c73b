-- What was found of the texts so far, and what holds of it.
use Rattle.std.proofs.Common.{ℕ, ◌≡◌, ◌+◌, ◌-◌, ◌++◌, Bool, true, false, List, [], ◌∷◌, take, drop, get_or, length, Some, None, length-take, append-nil, append_assoc, refl, sym, ap, subst, ◌∙◌, inl, inr, arith, Result, Ok, Err}
use Rattle.std.specs.Prelude.{All, ◌≤◌, IfOk}
use Rattle.std.specs.declared.alloc.AllocError.{AllocError}
use Rattle.std.proofs.Math.Seq.{take-length}
use Rattle.std.proofs.lemmas.List.Elements.{All-nil, All-cons, All-append, All-take}
use denote.Ref.{Bor}
use Rattle.timefd_parse.specs.Tree.{Text, Tree, pack}
use Rattle.timefd_lang_fault.specs.BorrowedFaults.{IsBorrowedOf, to_borrowed_fault}
use Rattle.timefd_lang_fault.specs.declared.borrowed_fault.BorrowedFault.{BorrowedFault}
use Rattle.timefd_lang_fault.specs.declared.borrowed_parse_error.BorrowedParseError.{BorrowedParseError}
use Rattle.timefd_lang_fault.specs.declared.borrowed_parse_error.BorrowedParseError.TheVariants.{Invalid}
use Rattle.timefd_description.specs.Guessing.Candidates.{Entry, entries, entry_of, rows_of, rows_in}
use Rattle.timefd_description.specs.declared.guessing.candidates.Group.{Group}
use Rattle.timefd_description.specs.Guessing.Found.{texts, Adds, IsRead, IsWritten, ReadBy, ComesBack, AllComeBack, Counts, one_if, ReadsAll, IsOffered, Appends, AreFound, IsReadBack, ReadsBack}
use Rattle.timefd_lang_fault.specs.Faults.{Fault}
use Rattle.timefd_language.specs.Broken.{FaultOf}
use Rattle.timefd_date_moment.specs.declared.moment.Moment.{Moment}
use Rattle.timefd_date_moment.specs.Fields.Reads.{fields_of}
use Rattle.timefd_language.specs.Grammar.{Spells, nesting_limit}
use Rattle.timefd_language.specs.declared.description_version.DescriptionVersion.TheVariants.{Three}
use Rattle.timefd_description.specs.declared.guessing.candidate.Candidate.{Candidate}
use Rattle.timefd_description.specs.declared.guessing.guessing.Guess.{Guess}

-- a nonempty list is its first element and those after it, as a pattern takes them
split : {A : Type 0} (rest : List A) (n : ℕ) (d : A) → n ≡ length rest → 1 ≤ length rest
    → rest ≡ get_or rest 0 d ∷ take (n - 1) (drop 1 rest)
split [] n d same some = absurd (omega (arith, some))
split (first ∷ rest) n d same some =
    let few : n - 1 ≡ length rest = omega (arith, same) in
    ap (λ r. first ∷ r) (sym (ap (λ k. take k rest) few ∙ take-length rest))

-- Texts that come back.

pub comes_some : (tree : Tree) (text : Text) (m : Moment) (r : Result Bool AllocError)
    → IsRead (fields_of tree text) (Some m) → IfOk r (IsWritten tree m text)
    → IfOk r (ComesBack tree text)
comes_some tree text m (Ok is_so) read is = (Some m, read, is)
comes_some tree text m (Err e) read is = tt

pub comes_none : (tree : Tree) (text : Text) → IsRead (fields_of tree text) None
    → ComesBack tree text false
comes_none tree text read = (None, read, refl)

-- the result depends only on what is left
abbrev pub Decides : Tree → List Text → List Text → Type 0
Decides tree all rest = (is_so : Bool) → AllComeBack tree rest is_so → AllComeBack tree all is_so

pub comes_more : (tree : Tree) (all : List Text) (rest after : List (Bor Text)) (text : Bor Text)
    → rest ≡ text ∷ after → ComesBack tree text.now true → Decides tree all (texts rest)
    → Decides tree all (texts after)
comes_more tree all rest after text split one so_far is_so more =
    so_far is_so (subst (λ r. AllComeBack tree (texts r) is_so) (sym split) (inl (one, more)))

pub comes_not : (tree : Tree) (all : List Text) (rest after : List (Bor Text)) (text : Bor Text)
    → rest ≡ text ∷ after → ComesBack tree text.now false → Decides tree all (texts rest)
    → AllComeBack tree all false
comes_not tree all rest after text split one so_far =
    so_far false (subst (λ r. AllComeBack tree (texts r) false) (sym split) (inr (one, refl)))

pub all_came : (tree : Tree) (all : List Text) (rest : List (Bor Text)) → rest ≡ []
    → Decides tree all (texts rest) → AllComeBack tree all true
all_came tree all rest none so_far =
    so_far true (subst (λ r. AllComeBack tree (texts r) true) (sym none) refl)

-- A description that is read, or that is refused.

abbrev pub IsTreeOf : Text → Tree → Type 0
IsTreeOf description tree =
    (list : List Tree) × Spells Three nesting_limit 0 description list × (tree ≡ pack list)

pub reads_of : (description : Text) (all : List Text) (tree view : Tree) (r : Result Bool AllocError)
    → IsTreeOf description tree → view ≡ tree → IfOk r (AllComeBack view all)
    → IfOk r (ReadsAll description all)
reads_of description all tree view (Ok is_so) found is came =
    inl (found.0, found.1, subst (λ t. AllComeBack t all is_so) (is ∙ found.2) came)
reads_of description all tree view (Err e) found is came = tt

pub read_by_of : (description : Text) (all : List Text) (tree view : Tree) (r : Result ℕ AllocError)
    → IsTreeOf description tree → view ≡ tree → IfOk r (Counts view all)
    → IfOk r (ReadBy description all)
read_by_of description all tree view (Ok n) found is counts =
    inl (found.0, found.1, subst (λ t. Counts t all n) (is ∙ found.2) counts)
read_by_of description all tree view (Err e) found is counts = tt

pub reads_none : (description : Text) (all : List Text) (f : Fault)
    → FaultOf Three nesting_limit description f → ReadsAll description all false
reads_none description all f faulty = inr (f, faulty, refl)

pub reads_none_of : (description : Text) (all : List Text) (e : BorrowedParseError)
    (fault : BorrowedFault) → e ≡ Invalid fault
    → IsBorrowedOf (FaultOf Three nesting_limit description) e → ReadsAll description all false
reads_none_of description all e fault is reported =
    reads_none description all (to_borrowed_fault fault)
    (subst (IsBorrowedOf (FaultOf Three nesting_limit description)) is reported)

pub read_by_none : (description : Text) (all : List Text) (f : Fault)
    → FaultOf Three nesting_limit description f → ReadBy description all 0
read_by_none description all f faulty = inr (f, faulty, refl)

pub read_by_none_of : (description : Text) (all : List Text) (e : BorrowedParseError)
    (fault : BorrowedFault) → e ≡ Invalid fault
    → IsBorrowedOf (FaultOf Three nesting_limit description) e → ReadBy description all 0
read_by_none_of description all e fault is reported =
    read_by_none description all (to_borrowed_fault fault)
    (subst (IsBorrowedOf (FaultOf Three nesting_limit description)) is reported)

-- How many come back.

abbrev pub Counting : Tree → List Text → List Text → ℕ → Type 0
Counting tree all rest count = (n : ℕ) → Counts tree rest n → Counts tree all (count + n)

pub none_counted : (tree : Tree) (all : List Text) → Counting tree all all 0
none_counted tree all n counts = subst (Counts tree all) (omega arith) counts

pub one_counted : (tree : Tree) (all : List Text) (rest after : List (Bor Text)) (text : Bor Text)
    (count new : ℕ) (one : Bool) → rest ≡ text ∷ after → ComesBack tree text.now one
    → new ≡ count + one_if one → Counting tree all (texts rest) count → Counting tree all (texts after) new
one_counted tree all rest after text count new one split comes sum so_far n counts =
    subst (Counts tree all) (omega (arith, sum))
    (so_far (one_if one + n)
    (subst (λ r. Counts tree (texts r) (one_if one + n)) (sym split)
    (one, n, comes, counts, refl)))

pub first_counted : (tree : Tree) (all : List Text) (rest : List (Bor Text)) (k : ℕ) (d : Bor Text)
    (count new : ℕ) (one : Bool) → k ≡ length rest → 1 ≤ length rest
    → ComesBack tree (get_or rest 0 d).now one → new ≡ count + one_if one
    → Counting tree all (texts rest) count
    → Counting tree all (texts (take (k - 1) (drop 1 rest))) new
first_counted tree all rest k d count new one same some comes sum so_far =
    one_counted tree all rest (take (k - 1) (drop 1 rest)) (get_or rest 0 d) count new one
    (split rest k d same some) comes sum so_far

pub all_counted : (tree : Tree) (all : List Text) (rest : List (Bor Text)) (count : ℕ) → rest ≡ []
    → Counting tree all (texts rest) count → Counts tree all count
all_counted tree all rest count none so_far =
    subst (Counts tree all) (omega arith)
    (so_far 0 (subst (λ r. Counts tree (texts r) 0) (sym none) refl))

-- No more are counted than were taken.
pub bound_more : (rest : List (Bor Text)) (k count new most : ℕ) (one : Bool) → k ≡ length rest
    → 1 ≤ length rest → new ≡ count + one_if one → count + length rest ≤ most
    → new + length (take (k - 1) (drop 1 rest)) ≤ most
bound_more [] k count new most one same some sum within = absurd (omega (arith, some))
bound_more (first ∷ rest) k count new most true same some sum within =
    omega (arith, same, sum, within, length-take (k - 1) rest)
bound_more (first ∷ rest) k count new most false same some sum within =
    omega (arith, same, sum, within, length-take (k - 1) rest)

-- Candidates that are found.

-- what the rest gives comes after
abbrev pub Finds : List Entry → List Text → List Entry → List Guess → List Guess → Type 0
Finds rows all rest old found =
    (more : List Guess) → AreFound rest all more → Adds rows all old (found ++ more)

pub none_found : (rows : List Entry) (all : List Text) (old : List Guess)
    → Finds rows all rows old old
none_found rows all old more found = (more, found, refl)

pub one_found : (rows : List Entry) (all : List Text) (rest after : List Candidate) (row : Candidate)
    (old found new : List Guess) → rest ≡ row ∷ after → Appends (entry_of row) all found new
    → Finds rows all (entries rest) old found → Finds rows all (entries after) old new
one_found rows all rest after row old found new split one so_far more others =
    subst (Adds rows all old) (sym (ap (λ x. x ++ more) one.4 ∙ append_assoc found one.1 more))
    (so_far (one.1 ++ more)
    (subst (λ r. AreFound (entries r) all (one.1 ++ more)) (sym split)
    (one.0, one.1, more, one.2, one.3, others, refl)))

pub first_found : (rows : List Entry) (all : List Text) (rest : List Candidate) (k : ℕ)
    (d : Candidate) (old found new : List Guess) → k ≡ length rest → 1 ≤ length rest
    → Appends (entry_of (get_or rest 0 d)) all found new → Finds rows all (entries rest) old found
    → Finds rows all (entries (take (k - 1) (drop 1 rest))) old new
first_found rows all rest k d old found new same some one so_far =
    one_found rows all rest (take (k - 1) (drop 1 rest)) (get_or rest 0 d) old found new
    (split rest k d same some) one so_far

pub all_found : (rows : List Entry) (all : List Text) (rest : List Candidate) (old found : List Guess)
    → rest ≡ [] → Finds rows all (entries rest) old found → Adds rows all old found
all_found rows all rest old found none so_far =
    subst (Adds rows all old) (append-nil found)
    (so_far [] (subst (λ r. AreFound (entries r) all []) (sym none) refl))

-- Groups of candidates.

joined : (rows others : List Entry) (all : List Text) (found more : List Guess)
    → AreFound rows all found → AreFound others all more
    → AreFound (rows ++ others) all (found ++ more)
joined [] others all found more none are =
    subst (λ x. AreFound others all (x ++ more)) (sym none) are
joined (row ∷ rows) others all found more one are = (
  one.0,
  one.1,
  one.2 ++ more,
  one.3,
  one.4,
  joined rows others all one.2 more one.5 are,
  ap (λ x. x ++ more) one.6 ∙ append_assoc one.1 one.2 more,
)

pub one_group : (rows : List Entry) (all : List Text) (rest after : List Group) (group : Group)
    (candidates : List Candidate) (old found new : List Guess) → rest ≡ group ∷ after
    → entries candidates ≡ rows_of group → Adds (entries candidates) all found new
    → Finds rows all (rows_in rest) old found → Finds rows all (rows_in after) old new
one_group rows all rest after group candidates old found new split are one so_far more others =
    subst (Adds rows all old) (sym (ap (λ x. x ++ more) one.2 ∙ append_assoc found one.0 more))
    (so_far (one.0 ++ more)
    (subst (λ r. AreFound (rows_in r) all (one.0 ++ more)) (sym split)
    (joined (rows_of group) (rows_in after) all one.0 more
    (subst (λ r. AreFound r all one.0) are one.1) others)))

pub first_group : (rows : List Entry) (all : List Text) (rest : List Group) (k : ℕ) (d : Group)
    (candidates : List Candidate) (old found new : List Guess) → k ≡ length rest → 1 ≤ length rest
    → entries candidates ≡ rows_of (get_or rest 0 d) → Adds (entries candidates) all found new
    → Finds rows all (rows_in rest) old found
    → Finds rows all (rows_in (take (k - 1) (drop 1 rest))) old new
first_group rows all rest k d candidates old found new same some are one so_far =
    one_group rows all rest (take (k - 1) (drop 1 rest)) (get_or rest 0 d) candidates old found new
    (split rest k d same some) are one so_far

pub all_in_groups : (rows : List Entry) (all : List Text) (rest : List Group) (found : List Guess)
    → rest ≡ [] → Finds rows all (rows_in rest) [] found → AreFound rows all found
all_in_groups rows all rest found none so_far =
    let whole = so_far [] (subst (λ r. AreFound (rows_in r) all []) (sym none) refl) in
    subst (AreFound rows all) (sym (sym (append-nil found) ∙ whole.2)) whole.1

-- Each of them reads each text and writes it back.

read_back : (tree : Tree) (text : Text) → ComesBack tree text true → IsReadBack tree text
read_back tree text (None, read, is) = cc
read_back tree text (Some m, read, is) = (m, read, is)

all_read_back : (tree : Tree) (all : List Text) → AllComeBack tree all true
    → All (IsReadBack tree) all
all_read_back tree [] came = All-nil (IsReadBack tree)
all_read_back tree (text ∷ more) (inl (one, others)) =
    All-cons (IsReadBack tree) text more (read_back tree text one) (all_read_back tree more others)
all_read_back tree (text ∷ more) (inr (one, none)) = cc

description_reads : (all : List Text) (text : Text) (guess : Guess) → guess.description.now ≡ text
    → ReadsAll text all true → ReadsBack all guess
description_reads all text guess is (inl (list, spelled, came)) = (
  list,
  subst (λ t. Spells Three nesting_limit 0 t list) (sym is) spelled,
  all_read_back (pack list) all came,
)
description_reads all text guess is (inr (f, faulty, none)) = cc

offered_read : (all : List Text) (row : Entry) (is_so : Bool) (front : List Guess)
    → ReadsAll row.text all is_so → IsOffered is_so row all front → All (ReadsBack all) front
offered_read all row false front reads none = subst (All (ReadsBack all)) (sym none) (All-nil (ReadsBack all))
offered_read all row true front reads one =
    subst (All (ReadsBack all)) (sym one.1)
    (All-cons (ReadsBack all) one.0 [] (description_reads all row.text one.0 one.2.0 reads)
    (All-nil (ReadsBack all)))

found_read : (all : List Text) (rows : List Entry) (found : List Guess) → AreFound rows all found
    → All (ReadsBack all) found
found_read all [] found none = subst (All (ReadsBack all)) (sym none) (All-nil (ReadsBack all))
found_read all (row ∷ rows) found (is_so, front, more, reads, offered, others, is) =
    subst (All (ReadsBack all)) (sym is)
    (All-append (ReadsBack all) front more (offered_read all row is_so front reads offered)
    (found_read all rows more others))

pub guesses_read : (all : List Text) (rows : List Entry) (found some : List Guess) (n : ℕ)
    → AreFound rows all found → some ≡ take n found → All (ReadsBack all) some
guesses_read all rows found some n are is =
    subst (All (ReadsBack all)) (sym is) (All-take (ReadsBack all) n found (found_read all rows found are))

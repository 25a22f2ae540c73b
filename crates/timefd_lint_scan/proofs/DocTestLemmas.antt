-- Examples in doc comments.
use Rattle.std.proofs.Common.{ℕ, ◌≡◌, ◌∙◌, ◌+◌, ◌-◌, ◌<◌, ◌≤◌, List, [], ◌∷◌, ◌++◌, ap, append-nil, append_assoc, arith, drop, get_or, length, length-drop}
use Rattle.std.proofs.Common.{refl, rules, subst, suc, sym, take, zero}
use Rattle.std.proofs.Math.Seq.{take-length}
use Rattle.std.specs.Prelude.{Bool, true, false, not, ◌&&◌, if◌then◌else◌, Option, Some, None, map, slice_index_or, slice_set}
use Rattle.timefd_lint_scan.specs.declared.doc_tests.DocTest.{DocTest}
use Rattle.timefd_lint_scan.specs.declared.doc_tests.before.LineBefore.{LineBefore}
use Rattle.timefd_lint_scan.specs.declared.doc_tests.place.DocPlace.{DocPlace}
use Rattle.timefd_lint_scan.specs.declared.doc_tests.place.DocPlace.TheVariants.{Outside}
use Rattle.timefd_lint_scan.specs.declared.piece.PlacedToken.{PlacedToken}
use Rattle.timefd_lint_scan.specs.Literals.{cut}
use Rattle.timefd_lint_scan.specs.declared.doc_tests.info.BlockLanguage.{BlockLanguage}
use Rattle.timefd_lint_scan.specs.declared.doc_tests.info.BlockLanguage.TheVariants.{Unsaid}
use Rattle.timefd_lint_scan.specs.Bytes.{Text}
use Rattle.timefd_lint_scan.specs.DocTests.{Line, TestCode, after_comment, after_word, code_from, code_with, goes_on, is_in_example, is_rust, line_code}
use Rattle.timefd_lint_scan.specs.DocTests.{line_of, opened_in, place_next, place_of, takes, test_of, tests_from, tests_in, to_last}
use Rattle.timefd_lint_scan.specs.DocTests.{language_of, with_comment, with_opened, word_end}

-- What is left decides what all words say.
pub record IsLeft (info rest : Text) (v : BlockLanguage) : Type 0 where
  pub most : ℕ
  pub within : length rest ≤ most
  pub same : language_of most v rest ≡ language_of (length info) Unsaid info

pub all_left : (info : Text) → IsLeft info info Unsaid
all_left info = record { most = length info; within = omega arith; same = refl }

word_less : (most : ℕ) (info rest next : Text) (v now : BlockLanguage) → 0 < length rest → length rest ≤ most
    → language_of most v rest ≡ language_of (length info) Unsaid info → next ≡ drop (word_end rest + 1) rest
    → now ≡ after_word v (take (word_end rest) rest) → IsLeft info next now
word_less zero info rest next v now some within same after said = absurd (omega (arith, some, within))
word_less (suc most) info [] next v now some within same after said = absurd (omega (arith, some))
word_less (suc most) info (b ∷ bytes) next v now some within same after said = record {
  most = most;
  within = omega (arith, ap length after ∙ length-drop (word_end (b ∷ bytes) + 1) (b ∷ bytes), within);
  same = ap (λ t. language_of most now t) after
      ∙ (ap (λ w. language_of most w (drop (word_end (b ∷ bytes) + 1) (b ∷ bytes))) said ∙ same);
}

-- A word less.
pub one_less : (info rest next : Text) (v now : BlockLanguage) → 0 < length rest → next ≡ drop (word_end rest + 1) rest
    → now ≡ after_word v (take (word_end rest) rest) → IsLeft info rest v → IsLeft info next now
one_less info rest next v now some after said left =
    word_less left.most info rest next v now some left.within left.same after said

at_end : (most : ℕ) (v : BlockLanguage) → language_of most v [] ≡ v
at_end zero v = refl
at_end (suc most) v = refl

pub none_left : (info rest : Text) (v : BlockLanguage) → length rest ≡ 0 → IsLeft info rest v → takes v ≡ is_rust info
none_left info [] v none left = ap takes (sym (at_end left.most v) ∙ left.same)
none_left info (b ∷ bytes) v none left = absurd (omega (arith, none))

-- The last example has these bytes more.
pub last_more : (bytes : Text) (tests : List DocTest) (last new : DocTest) (n : ℕ) → n + 1 ≡ length tests
    → last ≡ slice_index_or tests n last → test_of new ≡ record { start = last.start; code = last.code.items ++ bytes }
    → map test_of (slice_set tests n new) ≡ to_last bytes (map test_of tests)
last_more bytes [] last new n count is more = absurd (omega (arith, count))
last_more bytes (t ∷ []) last new zero count is more =
    ap (λ e. e ∷ []) (more ∙ ap (λ (d : DocTest). record { start = d.start; code = d.code.items ++ bytes }) is)
last_more bytes (t ∷ []) last new (suc n) count is more = absurd (omega (arith, count))
last_more bytes (t ∷ next ∷ ts) last new zero count is more = absurd (omega (arith, count))
last_more bytes (t ∷ next ∷ ts) last new (suc n) count is more =
    ap (λ es. test_of t ∷ es) (last_more bytes (next ∷ ts) last new n (omega (arith, count)) is more)

-- What the last example has more may be added in two steps.
to_last_twice : (one other : Text) (es : List TestCode) → to_last other (to_last one es) ≡ to_last (one ++ other) es
to_last_twice one other [] = refl
to_last_twice one other (e ∷ []) = ap (λ (t : Text). record { start = e.start; code = t } ∷ []) (append_assoc e.code one other)
to_last_twice one other (e ∷ next ∷ []) = ap (λ es. e ∷ es) (to_last_twice one other (next ∷ []))
to_last_twice one other (e ∷ next ∷ more ∷ es) = ap (λ es. e ∷ es) (to_last_twice one other (next ∷ more ∷ es))

to_last_none : (es : List TestCode) → to_last [] es ≡ es
to_last_none [] = refl
to_last_none (e ∷ []) = ap (λ (t : Text). record { start = e.start; code = t } ∷ []) (append-nil e.code)
to_last_none (e ∷ next ∷ es) = ap (λ es. e ∷ es) (to_last_none (next ∷ es))

to_last_opened : (bytes : Text) (start : ℕ) (es : List TestCode)
    → to_last bytes (with_opened start es) ≡ es ++ record { start = start; code = bytes } ∷ []
to_last_opened bytes start [] = refl
to_last_opened bytes start (e ∷ []) = refl
to_last_opened bytes start (e ∷ next ∷ es) = ap (λ es. e ∷ es) (to_last_opened bytes start (next ∷ es))

-- The last example is open after a line.
abbrev pub is_open : Option LineBefore → Bool
is_open None = false
is_open (Some before) = is_in_example before.place

-- these examples, and what the last one has more if it is open
abbrev pub completed : Bool → Text → List TestCode → List TestCode
completed goes bytes es = if goes then to_last bytes es else es

-- these examples once the rest of the comments is read
abbrev pub read_on : Text → Option LineBefore → List PlacedToken → List TestCode → List TestCode
read_on source before rest es = completed (is_open before) (code_from source before rest) es ++ tests_from source before rest

completed_none : (goes : Bool) (es : List TestCode) → completed goes [] es ≡ es
completed_none true es = to_last_none es
completed_none false es = refl

-- one line more, which stands in an example or doesn't (`here`), and after which the next one does or doesn't (`next`)
line_more : (goes here next : Bool) (end : ℕ) (line code : Text) (es more : List TestCode) → (here ≡ true → goes ≡ true)
    → completed goes (if here && next then line ++ code else []) es
    ++ ((if not here && next then record { start = end; code = code } ∷ [] else []) ++ more)
    ≡ completed next code (if not next then es else if here then to_last line es else with_opened end es) ++ more
line_more goes true true end line code es more so =
    rw (so refl) (ap (λ es. es ++ more) (sym (to_last_twice line code es)))
line_more goes true false end line code es more so = ap (λ es. es ++ more) (completed_none goes es)
line_more goes false true end line code es more so =
    ap (λ es. es ++ record { start = end; code = code } ∷ more) (completed_none goes es)
    ∙ (sym (append_assoc es (record { start = end; code = code } ∷ []) more) ∙ ap (λ es. es ++ more) (sym (to_last_opened code end es)))
line_more goes false false end line code es more so = ap (λ es. es ++ more) (completed_none goes es)

kept : (goes : Bool) (place : DocPlace) → is_in_example (if goes then place else Outside) ≡ true → is_in_example place ≡ true
kept true place here = here
kept false place here = search (rules, here)

-- A line that stands in an example goes on with one that does.
goes_on_open : (source : Text) (before : Option LineBefore) (line : Line) → is_in_example (place_of source before line) ≡ true
    → is_open before ≡ true
goes_on_open source None line here = here
goes_on_open source (Some before) line here = kept (goes_on source before line) before.place here

comment_more : (source : Text) (before : Option LineBefore) (x : Option Line) (code : Text) (es more : List TestCode)
    → completed (is_open before) (code_with source before x code) es ++ (opened_in source before x code ++ more)
    ≡ completed (is_open (after_comment source before x)) code (with_comment source before x es) ++ more
comment_more source before None code es more = ap (λ es. es ++ more) (completed_none (is_open before) es)
comment_more source before (Some line) code es more =
    line_more (is_open before) (is_in_example (place_of source before line)) (is_in_example (place_next source before line))
    line.piece.end (line_code source before line) code es more (goes_on_open source before line)

one_less_read : (source : Text) (all rest : List PlacedToken) (c : PlacedToken) (before now : Option LineBefore) (es more : List TestCode)
    → now ≡ after_comment source before (line_of c (cut source c)) → more ≡ with_comment source before (line_of c (cut source c)) es
    → read_on source before (c ∷ rest) es ≡ tests_in source all → read_on source now rest more ≡ tests_in source all
one_less_read source all rest c before now es more after with same =
    rw after (rw with (sym (comment_more source before (line_of c (cut source c))
    (code_from source (after_comment source before (line_of c (cut source c))) rest) es
    (tests_from source (after_comment source before (line_of c (cut source c))) rest)) ∙ same))

-- A comment less.
pub one_read : (source : Text) (all rest : List PlacedToken) (n : ℕ) (c other : PlacedToken) (before now : Option LineBefore)
    (es more : List TestCode) → n ≡ length rest → 1 ≤ length rest → c ≡ get_or rest 0 other
    → now ≡ after_comment source before (line_of c (cut source c)) → more ≡ with_comment source before (line_of c (cut source c)) es
    → read_on source before rest es ≡ tests_in source all → read_on source now (take (n - 1) (drop 1 rest)) more ≡ tests_in source all
one_read source all [] n c other before now es more count some is after with same = absurd (omega (arith, some))
one_read source all (first ∷ rest) n c other before now es more count some is after with same =
    let few : n - 1 ≡ length rest = omega (arith, count) in
    let those : take (n - 1) rest ≡ rest = ap (λ k. take k rest) few ∙ take-length rest in
    rw those (one_less_read source all rest c before now es more after with
    (subst (λ x. read_on source before (x ∷ rest) es ≡ tests_in source all) (sym is) same))

pub all_read : (source : Text) (all rest : List PlacedToken) (before : Option LineBefore) (es : List TestCode) → length rest < 1
    → read_on source before rest es ≡ tests_in source all → es ≡ tests_in source all
all_read source all [] before es none same =
    sym (append-nil (completed (is_open before) [] es) ∙ completed_none (is_open before) es) ∙ same
all_read source all (first ∷ rest) before es none same = absurd (omega (arith, none))

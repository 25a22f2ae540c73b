-- Each byte of an example's code is that of the source at its position, or a space.
use Rattle.std.proofs.Common.{ℕ, ◌≡◌, ◌∙◌, ◌+◌, ◌-◌, ◌<◌, ◌≤◌, List, [], ◌∷◌, ◌++◌, ap, append_assoc, arith, drop, get_or, inl, inr, length, length-append}
use Rattle.std.proofs.Common.{refl, subst, suc, sym, take, zero}
use Rattle.std.proofs.Math.Seq.{take-add, take-append_seam}
use Rattle.std.proofs.lemmas.Bool.{cases_Bool}
use Rattle.std.proofs.lemmas.Bool.Decides.{nat_tests}
use Rattle.std.proofs.lemmas.List.{drop-drop, get_or-drop, get_or-take, length-take}
use Rattle.std.specs.List.{starts_with}
use Rattle.std.specs.Prelude.{Bool, true, false, ◌⊎◌, ⊤, ◌&&◌, ◌||◌, ◌==◌, codes, nat_eq, nat_le, if◌then◌else◌, Option, Some, None}
use Rattle.timefd_lint_scan.specs.declared.doc_tests.before.LineBefore.{LineBefore}
use Rattle.timefd_lint_scan.specs.declared.doc_tests.line.DocSide.{DocSide}
use Rattle.timefd_lint_scan.specs.declared.doc_tests.line.DocSide.TheVariants.{Outer, Inner}
use Rattle.timefd_lint_scan.specs.declared.doc_tests.place.DocPlace.{DocPlace}
use Rattle.timefd_lint_scan.specs.declared.doc_tests.place.DocPlace.TheVariants.{Outside}
use Rattle.timefd_lint_scan.specs.declared.piece.PlacedToken.{PlacedToken}
use Rattle.timefd_lint_scan.specs.After.{after_run}
use Rattle.timefd_lint_scan.specs.Bytes.{Text, is_white}
use Rattle.timefd_lint_scan.specs.DocTests.{Line, StandsAt, TestCode, after_comment, code_from, code_of, code_with, gap, goes_on, is_in_example, is_line}
use Rattle.timefd_lint_scan.specs.DocTests.{is_same, line_code, line_in, line_of, opened_in, opens, place_next, shown, tests_from, tests_in}
use Rattle.timefd_lint_scan.specs.Literals.{cut}
use Rattle.timefd_lint_scan.specs.Marks.{in_front}

-- A code as long as a text, of which each byte is that of the text, or a space.
abbrev pub Covers : Text → Text → Type 0
Covers [] text = text ≡ []
Covers (a ∷ code) [] = ⊥
Covers (a ∷ code) (b ∷ text) = ((a ≡ 32) ⊎ (a ≡ b)) × Covers code text

covers_same : (text : Text) → Covers text text
covers_same [] = refl
covers_same (b ∷ text) = (inr refl, covers_same text)

covers_append : (a text b more : Text) → Covers a text → Covers b more → Covers (a ++ b) (text ++ more)
covers_append [] text b more none rest = subst (λ (t : Text). Covers b (t ++ more)) (sym none) rest
covers_append (x ∷ a) [] b more never rest = absurd never
covers_append (x ∷ a) (y ∷ text) b more (one, others) rest = (one, covers_append a text b more others rest)

covers_if : (test : Bool) (one other text : Text) → Covers one text → Covers other text → Covers (if test then one else other) text
covers_if true one other text this that = this
covers_if false one other text this that = that

shown_covers : (text : Text) → Covers (shown text) text
shown_covers [] = refl
shown_covers (b ∷ []) = covers_if (b == 35) (32 ∷ []) (b ∷ []) (b ∷ []) (inl refl, refl) (inr refl, refl)
shown_covers (b ∷ next ∷ rest) =
    covers_if (b == 35 && (next == 35 || is_white next)) (32 ∷ next ∷ rest) (b ∷ next ∷ rest) (b ∷ next ∷ rest)
    (inl refl, covers_same (next ∷ rest)) (covers_same (b ∷ next ∷ rest))

covers_at : (code text : Text) → Covers code text → (i : ℕ) → i < length code
    → (get_or code i 0 ≡ 32) ⊎ (get_or code i 0 ≡ get_or text i 0)
covers_at [] text none i below = absurd (omega (arith, below))
covers_at (a ∷ code) [] never i below = absurd never
covers_at (a ∷ code) (b ∷ text) (one, others) zero below = one
covers_at (a ∷ code) (b ∷ text) (one, others) (suc i) below = covers_at code text others i (omega (arith, below))

covers_length : (code text : Text) → Covers code text → length code ≡ length text
covers_length [] text none = sym (ap length none)
covers_length (a ∷ code) [] never = absurd never
covers_length (a ∷ code) (b ∷ text) (one, others) = ap suc (covers_length code text others)

-- These bytes stand at a position of a source.
pub record Stands (source : Text) (start : ℕ) (code : Text) : Type 0 where
  pub count : ℕ
  pub covers : Covers code (take count (drop start source))

pub stands_at : (source : Text) (start : ℕ) (code : Text) → Stands source start code → StandsAt source start code
stands_at source start code it i below =
    let few : length code ≤ it.count = omega (
      arith,
      covers_length code (take it.count (drop start source)) it.covers,
      length-take it.count (drop start source),
    ) in
    let within : i < it.count = omega (arith, below, few) in
    subst (λ (b : ℕ). (get_or code i 0 ≡ 32) ⊎ (get_or code i 0 ≡ b))
    (get_or-take it.count (drop start source) i 0 within ∙ get_or-drop start source i 0)
    (covers_at code (take it.count (drop start source)) it.covers i below)

nothing_stands : (source : Text) (start : ℕ) → Stands source start []
nothing_stands source start = record { count = 0; covers = refl }

stands_append : (source one other : Text) (start next count : ℕ) → next ≡ start + count → Covers one (take count (drop start source))
    → Stands source next other → Stands source start (one ++ other)
stands_append source one other start next count is first rest = record {
  count = count + rest.count;
  covers = subst (λ (t : Text). Covers (one ++ other) t) (sym (take-add count rest.count (drop start source)))
      (covers_append one (take count (drop start source)) other (take rest.count (drop count (drop start source))) first
      (subst (λ (t : Text). Covers other (take rest.count t))
      (ap (λ (n : ℕ). drop n source) is ∙ sym (drop-drop count start source)) rest.covers));
}

stands_if : (test : Bool) (source code : Text) (start : ℕ) → (test ≡ true → Stands source start code)
    → Stands source start (if test then code else [])
stands_if true source code start so = so refl
stands_if false source code start so = nothing_stands source start

-- what comes before a rest of a text
record Before (text rest : Text) : Type 0 where
  pub front : Text
  pub whole : text ≡ front ++ rest

before_run : (test : ℕ → Bool) (text : Text) → Before text (after_run test text)
before_run test [] = record { front = []; whole = refl }
before_run test (b ∷ text) = elim (cases_Bool (test b)) [
  | inl pass ↦ rw pass (let more : Before text (after_run test text) = before_run test text in
      record { front = b ∷ more.front; whole = ap (λ (t : Text). b ∷ t) more.whole })
  | inr fail ↦ rw fail (record { front = []; whole = refl })
]

front_is : (text front rest : Text) → text ≡ front ++ rest → in_front text rest ≡ front
front_is text front rest whole =
    let count : length text - length rest ≡ length front = omega (arith, ap length whole ∙ length-append front rest) in
    ap (λ (n : ℕ). take n text) count ∙ (ap (λ (t : Text). take (length front) t) whole ∙ take-append_seam front rest)

code_covers : (text rest : Text) → Before text rest → Covers (in_front text rest ++ shown rest) text
code_covers text rest it =
    subst (λ (t : Text). Covers (t ++ shown rest) text) (sym (front_is text it.front rest it.whole))
    (subst (λ (t : Text). Covers (it.front ++ shown rest) t) (sym it.whole)
    (covers_append it.front it.front (shown rest) rest (covers_same it.front) (shown_covers rest)))

pub code_of_covers : (text : Text) → Covers (code_of text) text
code_of_covers text = code_covers text (after_run is_white text) (before_run is_white text)

-- a comment with a sign of three bytes
comment_covers : (comment : Text) → 3 ≤ length comment → Covers (32 ∷ 32 ∷ 32 ∷ [] ++ code_of (drop 3 comment)) comment
comment_covers [] long = absurd (omega (arith, long))
comment_covers (a ∷ []) long = absurd (omega (arith, long))
comment_covers (a ∷ b ∷ []) long = absurd (omega (arith, long))
comment_covers (a ∷ b ∷ d ∷ text) long = (inl refl, (inl refl, (inl refl, code_of_covers text)))

no_sign : (one : Bool) → (one && false) ≡ true → ⊥
no_sign true so = absurd cc
no_sign false so = absurd cc

no_two : (one other : Bool) → (one && (other && false)) ≡ true → ⊥
no_two true other so = no_sign other so
no_two false other so = absurd cc

has_sign : (comment : Text) (d : ℕ) → starts_with nat_eq comment (47 ∷ 47 ∷ d ∷ []) ≡ true → 3 ≤ length comment
has_sign [] d so = absurd cc
has_sign (a ∷ []) d so = absurd (no_sign (47 == a) so)
has_sign (a ∷ b ∷ []) d so = absurd (no_two (47 == a) (47 == b) so)
has_sign (a ∷ b ∷ c ∷ text) d so = omega arith

-- A line of a doc comment is cut out of the source, and has three bytes before its text.
record IsCut (source : Text) (c : PlacedToken) (comment : Text) : Type 0 where
  pub ordered : c.start ≤ c.end
  pub within : c.end ≤ length source
  pub are : comment ≡ take (c.end - c.start) (drop c.start source)
  pub long : 3 ≤ length comment

abbrev OfLine : (Option Line → Type 0) → PlacedToken → Text → Type 0
OfLine P c comment = (side : DocSide) → 3 ≤ length comment → P (Some (record { piece = c; side = side; text = drop 3 comment }))

by_sign : (P : Option Line → Type 0) (c : PlacedToken) (comment : Text) → P None → OfLine P c comment → P (line_in c comment)
by_sign P c comment none some = elim (cases_Bool (starts_with nat_eq comment (codes "////"))) [
  | inl four ↦ rw four none
  | inr not4 ↦ rw not4 (elim (cases_Bool (starts_with nat_eq comment (codes "///"))) [
    | inl three ↦ rw three (some Outer (has_sign comment 47 three))
    | inr not3 ↦ rw not3 (elim (cases_Bool (starts_with nat_eq comment (codes "//!"))) [
      | inl inner ↦ rw inner (some Inner (has_sign comment 33 inner))
      | inr other ↦ rw other none
    ])
  ])
]

by_cut : (P : Option Line → Type 0) (source : Text) (c : PlacedToken) → P None
    → ((side : DocSide) (comment : Text) → IsCut source c comment → P (Some (record { piece = c; side = side; text = drop 3 comment })))
    → P (line_of c (cut source c))
by_cut P source c none some = elim (cases_Bool (nat_le c.start c.end && nat_le c.end (length source))) [
  | inl is ↦ rw is (by_sign P c (take (c.end - c.start) (drop c.start source)) none
      (λ side long. some side (take (c.end - c.start) (drop c.start source)) (record {
        ordered = grind (arith, nat_tests, is);
        within = grind (arith, nat_tests, is);
        are = refl;
        long = long;
      })))
  | inr outside ↦ rw outside none
]

it_goes : (goes next : Bool) (place : DocPlace) → (is_in_example (if goes then place else Outside) && next) ≡ true → goes ≡ true
it_goes true next place so = refl
it_goes false next place so = absurd cc

the_second : (one two three : Bool) → (one && two && three) ≡ true → two ≡ true
the_second one true three so = refl
the_second true false three so = absurd cc
the_second false false three so = absurd cc

follows : (source : Text) (b : LineBefore) (line : Line) → is_line source (Some b) line ≡ true → b.end ≤ line.piece.start
follows source b line so =
    let goes : goes_on source b line ≡ true = it_goes (goes_on source b line) (is_in_example (place_next source (Some b) line)) b.place so in
    let after : nat_le b.end line.piece.start ≡ true =
    the_second (is_same b.side line.side) (nat_le b.end line.piece.start)
    (length (after_run is_white (gap source (Some b) line)) == 0) goes in
    grind (arith, nat_tests, after)

line_stands : (source : Text) (b : LineBefore) (c : PlacedToken) (comment code : Text) → IsCut source c comment → b.end ≤ c.start
    → Stands source c.end code
    → Stands source b.end
    (take (c.start - b.end) (drop b.end source) ++ (32 ∷ 32 ∷ 32 ∷ [] ++ code_of (drop 3 comment) ++ code))
line_stands source b c comment code is after rest =
    stands_append source (take (c.start - b.end) (drop b.end source)) (32 ∷ 32 ∷ 32 ∷ [] ++ code_of (drop 3 comment) ++ code)
    b.end c.start (c.start - b.end) (omega (arith, after)) (covers_same (take (c.start - b.end) (drop b.end source)))
    (stands_append source (32 ∷ 32 ∷ 32 ∷ [] ++ code_of (drop 3 comment)) code c.start c.end (c.end - c.start)
    (omega (arith, is.ordered))
    (subst (λ (t : Text). Covers (32 ∷ 32 ∷ 32 ∷ [] ++ code_of (drop 3 comment)) t) is.are (comment_covers comment is.long))
    rest)

in_turn : (a b c d : Text) → ((a ++ b) ++ c) ++ d ≡ a ++ ((b ++ c) ++ d)
in_turn a b c d = ap (λ (t : Text). t ++ d) (append_assoc a b c) ∙ append_assoc a (b ++ c) d

abbrev line_at : PlacedToken → DocSide → Text → Line
line_at c side comment = record { piece = c; side = side; text = drop 3 comment }

abbrev next_at : Text → Option LineBefore → PlacedToken → DocSide → Text → LineBefore
next_at source before c side comment =
    record { side = side; end = c.end; place = place_next source before (line_at c side comment) }

line_in_stands : (source : Text) (b : LineBefore) (c : PlacedToken) (side : DocSide) (comment code : Text) → IsCut source c comment
    → Stands source c.end code
    → Stands source b.end (code_with source (Some b) (Some (line_at c side comment)) code)
line_in_stands source b c side comment code is rest =
    stands_if (is_line source (Some b) (line_at c side comment)) source
    (line_code source (Some b) (line_at c side comment) ++ code) b.end
    (λ so. subst (λ (t : Text). Stands source b.end t)
    (sym (in_turn (take (c.start - b.end) (drop b.end source)) (32 ∷ 32 ∷ 32 ∷ []) (code_of (drop 3 comment)) code))
    (line_stands source b c comment code is (follows source b (line_at c side comment) so) rest))

pub code_stands : (source : Text) (b : LineBefore) (cs : List PlacedToken) → Stands source b.end (code_from source (Some b) cs)
code_stands source b [] = nothing_stands source b.end
code_stands source b (c ∷ cs) =
    by_cut (λ (x : Option Line). Stands source b.end (code_with source (Some b) x (code_from source (after_comment source (Some b) x) cs)))
    source c (nothing_stands source b.end)
    (λ side comment is. line_in_stands source b c side comment
    (code_from source (Some (next_at source (Some b) c side comment)) cs) is
    (code_stands source (next_at source (Some b) c side comment) cs))

abbrev pub AllStand : Text → List TestCode → Type 0
AllStand source [] = ⊤
AllStand source (e ∷ es) = StandsAt source e.start e.code × AllStand source es

one_stands : (test : Bool) (source code : Text) (start : ℕ) (es : List TestCode) → Stands source start code → AllStand source es
    → AllStand source ((if test then record { start = start; code = code } ∷ [] else []) ++ es)
one_stands true source code start es this others = (stands_at source start code this, others)
one_stands false source code start es this others = others

tests_stand : (source : Text) (before : Option LineBefore) (cs : List PlacedToken) → AllStand source (tests_from source before cs)
tests_stand source before [] = tt
tests_stand source before (c ∷ cs) =
    by_cut (λ (x : Option Line). AllStand source (opened_in source before x (code_from source (after_comment source before x) cs)
    ++ tests_from source (after_comment source before x) cs))
    source c (tests_stand source None cs)
    (λ side comment is. one_stands (opens source before (line_at c side comment)) source
    (code_from source (Some (next_at source before c side comment)) cs) c.end
    (tests_from source (Some (next_at source before c side comment)) cs)
    (code_stands source (next_at source before c side comment) cs)
    (tests_stand source (Some (next_at source before c side comment)) cs))

-- The bytes of all examples in the comments of a source are those that stand there, or spaces.
pub all_stand : (source : Text) (cs : List PlacedToken) → AllStand source (tests_in source cs)
all_stand source cs = tests_stand source None cs

-- Nested descriptions, read one at a time, and the bracket around them.
use Rattle.std.proofs.Common.{inl, inr, ◌≡◌, ℕ, suc, ◌+◌, ◌<◌, ◌≤◌, Bool, false, not, ◌==◌, List, [], ◌∷◌, ◌++◌, length, map, Ok, Err, IsTrue, refl, sym, ap, ◌∙◌, subst, arith, append_assoc, append-nil, length-append}
use Rattle.std.proofs.lemmas.List.{map-append, length-map}
use Rattle.std.proofs.lemmas.Bool.{true≢false}
use Rattle.std.proofs.lemmas.Bool.Decides.{nat_tests}
use Rattle.std.specs.Borrow.{Bor}
use Rattle.timefd_language.specs.declared.text.Start.{Start}
use Rattle.timefd_language.specs.declared.text.Start.TheVariants as starts
use Rattle.timefd_language.specs.declared.description_version.DescriptionVersion.{DescriptionVersion}
use Rattle.timefd_language.specs.declared.description_version.DescriptionVersion.TheVariants.{Three}
use Rattle.timefd_lang_fault.specs.declared.read_error.Fault as code_fault
use Rattle.timefd_lang_fault.specs.declared.read_error.ReadError.{ReadError}
use Rattle.timefd_lang_fault.specs.declared.read_error.ReadError.TheVariants as errors
use Rattle.timefd_parse.specs.declared.head.verdict.JudgedHead.{JudgedHead}
use Rattle.timefd_parse.specs.declared.piece.Piece.{Piece}
use Rattle.timefd_parse.specs.declared.bracket.verdict.Nested as code_nested
use Rattle.timefd_lang_component.specs.Tree.{Text, Tree, pack}
use Rattle.timefd_lang_fault.specs.Faults.{Fault, fault, unclosed_bracket}
use Rattle.timefd_language.specs.Bytes.{left, right, backslash, is_run_byte, is_version_three, is_white, ZeroOrMore, StopsBefore}
use Rattle.timefd_language.specs.Fault.{enclosed}
use Rattle.timefd_lang_fault.specs.Words.{too_highly_nested}
use Rattle.timefd_language.specs.Head.{Head, head_text, modifiers_text}
use Rattle.timefd_language.specs.Verdict.{PlacedDescription, verdict}
use Rattle.timefd_language.specs.Grammar.{Pieces, bracket, Nested, no_nested, nested, ArePieces, AreNested, spelling, nested_text, items, parts_from, is_empty}
use Rattle.timefd_language.specs.Broken.{Broken, too_deep, broken_inside, cut_off, unclosed, refused, IsBroken, broken_text, broken_fault, before_inner, IsWholeBefore, is_bracket_byte}
use Rattle.timefd_language.specs.Cut.{IsCut, BeginsWith}
use Rattle.timefd_lang_fault.specs.ReadErrors.{IsFault, MemoryOr}
use Rattle.timefd_language.specs.FaultMeaning.{IsFaultAt}
use Rattle.timefd_parse.specs.HeadVerdicts.{IsVerdict, BeginsWithJudged}
use Rattle.timefd_parse.specs.Pieces.{IsBuilt, IsPiece}
use Rattle.timefd_parse.specs.Judged.{ShowsDescriptions, ShowsNested, JudgedFault, packed}
use Rattle.timefd_parse.specs.Read.{Leads, IsFaultIn, IsEnd, PiecesToEnd, IsEnclosed, IsNested, IsNestedFault}
use Rattle.timefd_parse.proofs.ReadLemmas.{memory_or}

add : Nested → Text → Pieces → Nested
add no_nested white ps = nested white ps no_nested
add (nested w qs ns) white ps = nested w qs (add ns white ps)

nested_more : (v : DescriptionVersion) (limit n : ℕ) (ns : Nested) (white : Text) (ps : Pieces)
    → AreNested v limit n ns → ZeroOrMore is_white white → n < limit → ArePieces v limit (suc n) ps
    → AreNested v limit n (add ns white ps)
unfolding add
nested_more v limit n no_nested white ps are w lt is = (w, lt, is, tt)
nested_more v limit n (nested w0 qs ns) white ps are w lt is =
    (are.0, are.1, are.2, nested_more v limit n ns white ps are.3 w lt is)

nested_text_more : (ns : Nested) (white : Text) (ps : Pieces)
    → nested_text (add ns white ps) ≡ nested_text ns ++ (white ++ left ∷ spelling ps ++ right ∷ [])
unfolding add
nested_text_more no_nested white ps = refl
nested_text_more (nested w qs ns) white ps =
    ap (λ t. w ++ left ∷ spelling qs ++ right ∷ t) (nested_text_more ns white ps) ∙ simp append_assoc

part : ℕ → Text → Pieces → PlacedDescription
part k white ps = record {
  spaced = not (is_empty white);
  index = k + length white;
  trees =
      items ps;
}

parts_more : (k : ℕ) (ns : Nested) (white : Text) (ps : Pieces)
    → parts_from k (add ns white ps) ≡ parts_from k ns ++ part (k + length (nested_text ns)) white
    ps ∷ []
unfolding add part
parts_more k no_nested white ps = ap (λ j. part j white ps ∷ []) (omega arith)
parts_more k (nested w qs ns) white ps =
    let same : k + length w + 1 + length (spelling qs) + 1 + length (nested_text ns) ≡ k + length
    (nested_text (nested w qs ns)) = simp length-append (omega arith) in
    ap (λ l. part k w qs ∷ l) (parts_more (k + length w + 1 + length (spelling qs) + 1) ns white ps
    ∙ ap (λ j. parts_from (k + length w + 1 + length (spelling qs) + 1) ns ++ part j white
    ps ∷ []) same)

shows_more : (total : ℕ) (spaced : Bool) (remaining : ℕ) (read : List Tree)
    (ps : List PlacedDescription) (inner : Tree) (p : PlacedDescription)
    → ShowsDescriptions total spaced remaining read ps
    → (ps ≡ [] → (p.spaced ≡ spaced) × (p.index + remaining ≡ total)) → inner ≡ pack p.trees
    → ShowsDescriptions total spaced remaining (read ++ inner ∷ []) (ps ++ p ∷ [])
shows_more total spaced remaining read [] inner p shows first e =
    let f = first refl in
    (f.0, f.1, ap (λ l. l ++ inner ∷ []) shows ∙ ap (λ t. t ∷ []) e)
shows_more total spaced remaining read (q ∷ ps) inner p shows first e = (
  shows.0,
  shows.1,
  ap (λ l. l ++ inner ∷ []) shows.2 ∙
      ap (λ t. map (λ (x : PlacedDescription). pack x.trees) (q ∷ ps) ++ t ∷ []) e ∙
      sym (map-append (λ (x : PlacedDescription). pack x.trees) (q ∷ ps) (p ∷ [])),
)

abbrev pub IsFirst : Bool → ℕ → Nested → Text → Text → Type 0
IsFirst spaced remaining no_nested white rest = (not (is_empty white) ≡ spaced)
    × (remaining ≡ length rest)
IsFirst spaced remaining (nested w ps ns) white rest = Unit {0}

-- the nested descriptions that were read of a text, white bytes, and the rest
pub record NestedBefore (v : DescriptionVersion) (limit n : ℕ) (start : Text) (spaced : Bool)
    (remaining : ℕ) (read : List Tree) (rest : Text) : Type 0 where
  pub list : Nested
  pub white : Text
  pub are : AreNested v limit n list
  pub all_white : ZeroOrMore is_white white
  pub stops : StopsBefore is_white rest
  pub whole : start ≡ nested_text list ++ white ++ rest
  pub wholly : IsWholeBefore list rest
  pub first : IsFirst spaced remaining list white rest
  pub shows : (k total : ℕ) → k + length start ≡ total
      → ShowsDescriptions total spaced remaining read (parts_from k list)

empty_length : (text : Text) → is_empty text ≡ (length text == 0)
empty_length [] = refl
empty_length (b ∷ text) = grind (arith, nat_tests)

pub nothing_nested : (v : DescriptionVersion) (limit n : ℕ) (text : Text) (judged : JudgedHead)
    (rest : Text) (h : Head) (remaining : ℕ)
    (begins : BeginsWithJudged (is_version_three v) text judged rest h) → remaining ≡ length rest
    → NestedBefore v limit n (begins.white ++ rest) judged.spaced remaining [] rest
nothing_nested v limit n text judged rest h remaining begins r = record {
  list = no_nested;
  white = begins.white;
  are = tt;
  all_white = begins.all_white;
  stops = begins.stops_white;
  whole = refl;
  wholly = begins.stops_word;
  first = (ap not (empty_length begins.white) ∙ sym begins.spaced, r);
  shows = λ k total e. refl;
}

whole_more : (ns : Nested) (white : Text) (ps : Pieces) (rest : Text)
    → IsWholeBefore (add ns white ps) rest
unfolding add
whole_more no_nested white ps rest = tt
whole_more (nested w qs ns) white ps rest = tt

first_nested_more : (spaced : Bool) (remaining : ℕ) (ns : Nested) (white : Text) (ps : Pieces)
    (w rest : Text) → IsFirst spaced remaining (add ns white ps) w rest
unfolding add
first_nested_more spaced remaining no_nested white ps w rest = tt
first_nested_more spaced remaining (nested v qs ns) white ps w rest = tt

first_position : (k total : ℕ) (spaced : Bool) (remaining : ℕ) (ns : Nested) (white : Text)
    (ps : Pieces) (rest : Text) → IsFirst spaced remaining ns white rest
    → k + length (nested_text ns ++ white ++ rest) ≡ total
    → parts_from k ns ≡ [] → ((part (k + length (nested_text ns)) white ps).spaced ≡ spaced)
    × ((part (k + length (nested_text ns)) white ps).index + remaining ≡ total)
unfolding part
first_position k total spaced remaining no_nested white ps rest first e none =
    (first.0, omega (arith, e, first.1, length-append white rest))
first_position k total spaced remaining (nested w qs ns) white ps rest first e none = absurd (cc)

pub nested_step : (v : DescriptionVersion) (limit n : ℕ) (start : Text) (spaced : Bool)
    (remaining : ℕ) (read : List Tree) (rest text after white' rest' : Text) (front : Pieces)
    (inner : Tree)
    → NestedBefore v limit n start spaced remaining read rest → rest ≡ left ∷ text → n < limit
    → ArePieces v limit (suc n) front → text ≡ spelling front ++ right ∷ after
    → IsCut is_white after white' rest' → inner ≡ pack (items front)
    → NestedBefore v limit n start spaced remaining (read ++ inner ∷ []) rest'
unfolding part
nested_step v limit n start spaced remaining read rest text after white' rest' front inner before
    opening lt are e cut tree = record {
      list = add before.list before.white front;
      white = white';
      are = nested_more v limit n before.list before.white front before.are before.all_white lt are;
      all_white = cut.passes;
      stops = cut.stops;
      whole = before.whole ∙ ap (λ t. nested_text before.list ++ before.white ++ t)
          (opening ∙ ap (λ t. left ∷ t) (e ∙ ap (λ t. spelling front ++ right ∷ t) cut.whole)) ∙
          rw (nested_text_more before.list before.white front) (simp append_assoc);
      wholly = whole_more before.list before.white front rest';
      first = first_nested_more spaced remaining before.list before.white front white' rest';
      shows = λ k total f.
          subst (λ ps. ShowsDescriptions total spaced remaining (read ++ inner ∷ []) ps)
          (sym (parts_more k before.list before.white front))
          (shows_more total spaced remaining read (parts_from k before.list) inner
          (part (k + length (nested_text before.list)) before.white front) (before.shows k total f)
          (first_position k total spaced remaining before.list before.white front rest before.first
          (ap (λ t. k + length t) (sym before.whole) ∙ f)) tree);
    }

-- A nested description, from what the calls ensure.

module _ (v : DescriptionVersion) (limit n start : ℕ) (text : Text) where
  pub at_limit : (e : ReadError) → n ≡ limit
      → MemoryOr (λ f. IsFault (length text + 1) f (fault too_highly_nested 0)) e
      → MemoryOr (IsNestedFault v limit n start text) e
  at_limit e at is = memory_or _ (IsNestedFault v limit n start text) (λ f d. inl (at, d)) e is

  pub inner_fails : (m : ℕ) (e r : ReadError) → m ≡ suc n → n < limit
      → MemoryOr (IsFaultIn v limit m text) e → IsEnclosed start e r
      → MemoryOr (IsNestedFault v limit n start text) r
  inner_fails m errors.Memory r more lt is enclosing =
      subst (MemoryOr (IsNestedFault v limit n start text)) (sym enclosing) tt
  inner_fails m (errors.Invalid f) r more lt is enclosing =
      let in_suc : IsFaultIn v limit (suc n) text f =
      subst (λ k. IsFaultIn v limit k text f) more is in
      memory_or _ (IsNestedFault v limit n start text)
      (λ f' raise. inr (inr (
        in_suc.0,
        in_suc.1,
        lt,
        in_suc.2,
        in_suc.3,
        in_suc.4,
        λ k e. raise (broken_fault in_suc.1) (length (broken_text in_suc.1)) k in_suc.5 e,
      )))
      r enclosing

  pub inner_cut_off : (m : ℕ) (inner : List Tree) (end : Text) (e : ReadError) → m ≡ suc n
      → n < limit → PiecesToEnd v limit m text inner end → end ≡ []
      → MemoryOr (λ f. IsFault start f (fault unclosed_bracket 0)) e
      → MemoryOr (IsNestedFault v limit n start text) e
  inner_cut_off m inner end e more lt is none at_start =
      let in_suc : PiecesToEnd v limit (suc n) text inner end =
      subst (λ k. PiecesToEnd v limit k text inner end) more is in
      memory_or _ (IsNestedFault v limit n start text)
      (λ f c. inr (inl (
        in_suc.0,
        lt,
        in_suc.1,
        in_suc.2 ∙ ap (λ t. spelling in_suc.0 ++ t) none ∙
            append-nil (spelling in_suc.0),
        c,
      )))
      e at_start

module _ {v : DescriptionVersion} {limit n : ℕ} {text : Text} where
  pub inner_read : (m : ℕ) (inner : List Tree) (end after : Text) (tree : Tree) → m ≡ suc n
      → n < limit → PiecesToEnd v limit m text inner end → end ≡ right ∷ after → tree ≡ pack inner
      → IsNested v limit n text tree after
  inner_read m inner end after tree more lt is closing packed =
      let in_suc : PiecesToEnd v limit (suc n) text inner end =
      subst (λ k. PiecesToEnd v limit k text inner end) more is in (
        in_suc.0,
        lt,
        in_suc.1,
        in_suc.2 ∙ ap (λ t. spelling in_suc.0 ++ t) closing,
        packed ∙
            ap pack (sym in_suc.3),
      )

  pub nested_shorter : (tree : Tree) (after : Text) → IsNested v limit n text tree after
      → length after < length text
  nested_shorter tree after is = omega (
    arith,
    ap length is.3,
    length-append (spelling is.0) (right ∷ after),
  )

-- Brackets.

-- what a verdict says about a bracket that it accepts, and about one that it refuses
abbrev pub Accepts : Bool → Bool → ℕ → JudgedHead → code_nested.Nested → ℕ → List Tree → List Tree
    → Piece → Type 0
Accepts strict builds total judged inners end old new piece =
    (position : ℕ) (h : Head) (parts : List PlacedDescription) (base : List Tree)
    → IsVerdict strict total h judged.nests judged.verdict → ShowsNested total inners parts
    → position + end ≡ total
    → IsBuilt builds base old (packed parts)
    → (tree : Tree) × (verdict strict h parts position ≡ Ok tree)
    × IsPiece strict builds base new piece tree

abbrev pub Refuses : Bool → Bool → ℕ → JudgedHead → code_nested.Nested → ℕ → List Tree → ReadError
    → Type 0
Refuses strict builds total judged inners end old e =
    (position : ℕ) (h : Head) (parts : List PlacedDescription) (base : List Tree)
    → IsVerdict strict total h judged.nests judged.verdict → ShowsNested total inners parts
    → position + end ≡ total
    → IsBuilt builds base old (packed parts)
    → MemoryOr (JudgedFault total (verdict strict h parts position)) e

shows_nested : (total : ℕ) (inners : code_nested.Nested) (read : List Tree)
    (parts : List PlacedDescription)
    → ShowsDescriptions total inners.spaced inners.remaining read parts → inners.count ≡ length read
    → ShowsNested total inners parts
shows_nested total inners read [] shows e = e ∙ ap length shows
shows_nested total inners read (p ∷ ps) shows e = (
  shows.0,
  shows.1,
  e ∙ ap length shows.2 ∙
      length-map (p ∷ ps) (λ (q : PlacedDescription). pack q.trees),
)

read_packed : (total : ℕ) (spaced : Bool) (remaining : ℕ) (read : List Tree)
    (parts : List PlacedDescription) → ShowsDescriptions total spaced remaining read parts
    → read ≡ packed parts
read_packed total spaced remaining read [] shows = shows
read_packed total spaced remaining read (p ∷ ps) shows = shows.2

-- the head of a bracket and nested descriptions were read, and this is the rest
pub record BracketBefore (v : DescriptionVersion) (limit n : ℕ) (inside : Text)
    (judged : JudgedHead) (remaining : ℕ) (read : List Tree) (rest : Text) : Type 0 where
  pub h : Head
  pub after : Text
  pub begins : BeginsWithJudged (is_version_three v) (left ∷ inside) judged after h
  pub before : NestedBefore v limit n (begins.white ++ after) judged.spaced remaining read rest

pub bracket_begins : {v : DescriptionVersion} {limit n : ℕ} {inside : Text} {judged : JudgedHead}
    {after : Text} {h : Head}
    → BeginsWithJudged (is_version_three v) (left ∷ inside) judged after h
    → BracketBefore v limit n inside judged (length after) [] after
bracket_begins {v} {limit} {n} {inside} {judged} {after} {h} begins = record {
  h = h;
  after = after;
  begins = begins;
  before = nothing_nested v limit n (left ∷ inside) judged after h (length after) begins refl;
}

pub after_within : {strict : Bool} {inside : Text} {judged : JudgedHead} {after : Text} {h : Head}
    → BeginsWithJudged strict (left ∷ inside) judged after h → length after ≤ length inside
after_within {strict} {inside} {judged} {after} {h} begins =
    omega (
      arith,
      ap length begins.whole,
      length-append (head_text h ++ begins.white) after,
      length-append (head_text h) begins.white,
      length-append (left ∷ h.white ++ h.name) (modifiers_text h.modifiers),
      length-append (left ∷ h.white) h.name,
    )

no_bracket_byte : (b : ℕ) → IsTrue (is_run_byte Three b) → is_bracket_byte b ≡ false
no_bracket_byte b run = grind (arith, nat_tests)

run_byte_is_no_closing : (b : ℕ) → IsTrue (is_run_byte Three b) → b ≡ right → ⊥
run_byte_is_no_closing b run e = absurd (true≢false (sym run ∙ ap (is_run_byte Three) e))

first_byte : (a b : ℕ) (x y : Text) → a ∷ x ≡ b ∷ y → a ≡ b
first_byte a b x y e = cc

-- no `[` and no `]`
pub no_bracket : (s : Start) (rest : Text) → BeginsWith s rest
    → ((x : Bor (List ℕ)) → s ≡ starts.Opening x → ⊥)
    → ((x : Bor (List ℕ)) → s ≡ starts.Closing x → ⊥) → StopsBefore is_bracket_byte rest
no_bracket starts.End rest is opening closing = subst (StopsBefore is_bracket_byte) (sym is) tt
no_bracket (starts.Opening x) rest is opening closing = absurd (opening x refl)
no_bracket (starts.Closing x) rest is opening closing = absurd (closing x refl)
no_bracket (starts.Backslash x) rest is opening closing =
    subst (StopsBefore is_bracket_byte) (sym is) refl
no_bracket starts.Other rest is opening closing =
    subst (StopsBefore is_bracket_byte) (sym is.2) (no_bracket_byte is.0 is.3)

-- the end of a nested description that no `]` follows
pub no_closing : (n : ℕ) (s : Start) (rest : Text) → BeginsWith s rest → IsEnd n rest
    → ((x : Bor (List ℕ)) → s ≡ starts.Closing x → ⊥) → rest ≡ []
no_closing n s [] is end closing = refl
no_closing n starts.End (b ∷ rest) is end closing = is
no_closing n (starts.Opening x) (b ∷ rest) is end closing =
    absurd (omega (arith, first_byte b left rest x.now is, end.0))
no_closing n (starts.Closing x) (b ∷ rest) is end closing = absurd (closing x refl)
no_closing n (starts.Backslash x) (b ∷ rest) is end closing =
    absurd (omega (arith, first_byte b backslash rest x.now is, end.0))
no_closing n starts.Other (b ∷ rest) is end closing =
    absurd (omega (
      arith,
      first_byte b is.0 rest is.1 is.2,
      end.0,
      run_byte_is_no_closing is.0 is.3,
    ))

module _ {v : DescriptionVersion} {limit n : ℕ} {inside : Text} {judged : JudgedHead}
    {remaining : ℕ} {read : List Tree} {rest : Text}
    (b : BracketBefore v limit n inside judged remaining read rest) where
  pub whole : left ∷ inside ≡ head_text b.h ++ nested_text b.before.list ++ b.before.white ++ rest
  whole =
      b.begins.whole ∙ append_assoc (head_text b.h) b.begins.white b.after ∙
      ap (λ t. head_text b.h ++ t) b.before.whole
      ∙ sym (append_assoc (head_text b.h) (nested_text b.before.list ++ b.before.white) rest) ∙
      ap (λ t. t ++ rest) (sym (append_assoc (head_text b.h) (nested_text b.before.list)
      b.before.white))

  pub position : ℕ
  position = length (head_text b.h ++ nested_text b.before.list ++ b.before.white)

  pub parts : List PlacedDescription
  parts = parts_from (length (head_text b.h)) b.before.list

  pub position_of_rest : position + length rest ≡ length inside + 1
  unfolding position
  position_of_rest = omega (
    arith,
    ap length whole,
    length-append (head_text b.h ++ nested_text b.before.list ++ b.before.white) rest,
  )

  pub parts_shown : ShowsDescriptions (length inside + 1) judged.spaced remaining read parts
  unfolding parts
  parts_shown = b.before.shows (length (head_text b.h)) (length inside + 1)
      (omega (
        arith,
        ap length b.begins.whole,
        length-append (head_text b.h ++ b.begins.white)
            b.after,
        length-append (head_text b.h) b.begins.white,
        length-append b.begins.white b.after,
      ))

  pub bracket_leads : (after : Text) (tree : Tree) → rest ≡ right ∷ after
      → verdict (is_version_three v) b.h parts position ≡ Ok tree
      → Leads v limit n (left ∷ inside) tree after
  unfolding position parts
  bracket_leads after tree closing ok = λ front tail are e. (
    bracket b.h b.before.list b.before.white tree front,
    (b.begins.is, b.before.are, b.before.all_white, ok, are),
    whole ∙ ap (λ t. head_text b.h ++ nested_text b.before.list ++ b.before.white ++ t)
        (closing ∙ ap (λ t. right ∷ t) e) ∙ simp append_assoc,
    refl,
  )

  pub bracket_refused : (after : Text) (f : code_fault.Fault) (g : Fault) → rest ≡ right ∷ after
      → verdict (is_version_three v) b.h parts position ≡ Err g → IsFault (length inside + 1) f g
      → IsFaultAt v limit n (left ∷ inside) f
  unfolding position parts
  bracket_refused after f g closing refuses is = (
    refused b.h b.before.list b.before.white g after,
    (b.begins.is, b.before.are, b.before.all_white, refuses),
    whole ∙ ap (λ t. head_text b.h ++ nested_text b.before.list ++ b.before.white ++ t) closing,
    record { kind = is.kind; position = omega (arith, is.position) },
  )

  pub bracket_unclosed : (f : code_fault.Fault) → StopsBefore is_bracket_byte rest
      → IsFault (length inside + 1) f (fault unclosed_bracket 0)
      → IsFaultAt v limit n (left ∷ inside) f
  bracket_unclosed f stops is = (
    unclosed b.h b.before.list b.before.white rest,
    (b.begins.is, b.before.are, b.before.all_white, b.before.stops, stops, b.before.wholly),
    whole,
    record { kind = is.kind; position = omega (arith, is.position) },
  )

  pub bracket_too_deep : (f : code_fault.Fault) (text : Text) → rest ≡ left ∷ text → n ≡ limit
      → IsFault (length rest) f (fault too_highly_nested 0) → IsFaultAt v limit n (left ∷ inside) f
  bracket_too_deep f text opening at_limit is = (
    too_deep b.h b.before.list b.before.white text,
    (b.begins.is, b.before.are, b.before.all_white, at_limit),
    whole ∙ ap (λ t. head_text b.h ++ nested_text b.before.list ++ b.before.white ++ t) opening ∙
        simp append_assoc,
    record {
      kind = is.kind;
      position =
          omega (
            arith,
            is.position,
            ap length whole,
            length-append (head_text b.h ++ nested_text b.before.list ++ b.before.white) rest,
          );
    },
  )

  pub bracket_cut_off : (f : code_fault.Fault) (text : Text) (front : Pieces) → rest ≡ left ∷ text
      → n < limit → ArePieces v limit (suc n) front → text ≡ spelling front
      → IsFault (length inside + 1) f (fault unclosed_bracket 0)
      → IsFaultAt v limit n (left ∷ inside) f
  bracket_cut_off f text front opening lt are e is = (
    cut_off b.h b.before.list b.before.white front,
    (b.begins.is, b.before.are, b.before.all_white, lt, are),
    whole ∙ ap (λ t. head_text b.h ++ nested_text b.before.list ++ b.before.white ++ t)
        (opening ∙ ap (λ t. left ∷ t) e) ∙ simp append_assoc,
    record { kind = is.kind; position = omega (arith, is.position) },
  )

  pub bracket_broken : (f : code_fault.Fault) (text : Text) (front : Pieces) (c : Broken)
      → rest ≡ left ∷ text → n < limit → ArePieces v limit (suc n) front
      → IsBroken v limit (suc n) c
      → text ≡ spelling front ++ broken_text c
      → IsFault (length inside + 1) f
      (enclosed (broken_fault c).kind (broken_fault c).index
      (length (before_inner b.h b.before.list b.before.white ++ spelling front)))
      → IsFaultAt v limit n (left ∷ inside) f
  bracket_broken f text front c opening lt are broken e is = (
    broken_inside b.h b.before.list b.before.white front c,
    (b.begins.is, b.before.are, b.before.all_white, lt, are, broken),
    whole ∙ ap (λ t. head_text b.h ++ nested_text b.before.list ++ b.before.white ++ t)
        (opening ∙ ap (λ t. left ∷ t) e) ∙ simp append_assoc,
    record { kind = is.kind; position = omega (arith, is.position) },
  )

  pub inner_position : (text : Text) (front : Pieces) (c : Broken) → rest ≡ left ∷ text
      → text ≡ spelling front ++ broken_text c
      → length (before_inner b.h b.before.list b.before.white ++ spelling front) + length
      (broken_text c) ≡ length inside + 1
  inner_position text front c opening e =
      let whole_is : left ∷ inside ≡ before_inner b.h b.before.list b.before.white ++ spelling
      front ++ broken_text c =
      whole ∙ ap (λ t. head_text b.h ++ nested_text b.before.list ++ b.before.white ++ t)
      (opening ∙ ap (λ t. left ∷ t) e) ∙ simp append_assoc in
      omega (
        arith,
        ap length whole_is,
        length-append (before_inner b.h b.before.list b.before.white ++ spelling front)
            (broken_text c),
      )

  -- The bracket, from what the calls ensure.

  shown : IsVerdict (is_version_three v) (length inside + 1) b.h judged.nests judged.verdict
  shown = let same : length (left ∷ inside) ≡ length inside + 1 = omega arith in
      subst (λ k. IsVerdict (is_version_three v) k b.h judged.nests judged.verdict) same
      b.begins.verdict

  module _ (builds : Bool) (count : ℕ) (base old : List Tree) (counted : count ≡ length read)
      (are : IsBuilt builds base old read) where
    built_parts : IsBuilt builds base old (packed parts)
    built_parts = λ on. are on ∙
        ap (λ ts. base ++ ts) (read_packed _ _ _ read parts parts_shown)

    nested_shown : ShowsNested (length inside + 1)
        (record { spaced = judged.spaced; remaining = remaining; count = count }) parts
    nested_shown = shows_nested (length inside + 1)
        (record { spaced = judged.spaced; remaining = remaining; count = count }) read parts parts_shown
        counted

    pub accepted : (after : Text) (new : List Tree) (piece : Piece) → rest ≡ right ∷ after
        → Accepts (is_version_three v) builds (length inside + 1) judged
        (record { spaced = judged.spaced; remaining = remaining; count = count }) (length rest) old new
        piece
        → (tree : Tree) × Leads v limit n (left ∷ inside) tree after
        × IsPiece (is_version_three v) builds base new piece tree
    accepted after new piece closing tree =
        let j = tree position b.h parts base shown nested_shown position_of_rest built_parts in
        (j.0, bracket_leads after j.0 closing j.1, j.2)

    pub refuses : (after : Text) (e : ReadError) → rest ≡ right ∷ after
        → Refuses (is_version_three v) builds (length inside + 1) judged
        (record { spaced = judged.spaced; remaining = remaining; count = count }) (length rest) old e
        → MemoryOr (IsFaultAt v limit n (left ∷ inside)) e
    refuses after e closing fails =
        memory_or _ (IsFaultAt v limit n (left ∷ inside))
        (λ f is. bracket_refused after f is.0 closing is.1 is.2) e
        (fails position b.h parts base shown nested_shown position_of_rest built_parts)

  pub never_closed : (e : ReadError) → StopsBefore is_bracket_byte rest
      → MemoryOr (λ f. IsFault (length inside + 1) f (fault unclosed_bracket 0)) e
      → MemoryOr (IsFaultAt v limit n (left ∷ inside)) e
  never_closed e stops = memory_or _ (IsFaultAt v limit n (left ∷ inside))
      (λ f is. bracket_unclosed f stops is) e

  pub nested_fault : (text : Text) (e : ReadError) → rest ≡ left ∷ text
      → MemoryOr (IsNestedFault v limit n (length inside + 1) text) e
      → MemoryOr (IsFaultAt v limit n (left ∷ inside)) e
  nested_fault text e opening is = memory_or _ (IsFaultAt v limit n (left ∷ inside)) by e is
    where
      by : (f : code_fault.Fault) → IsNestedFault v limit n (length inside + 1) text f
          → IsFaultAt v limit n (left ∷ inside) f
      by f (inl d) =
          let whole_rest : length text + 1 ≡ length rest = omega (arith, ap length opening) in
          bracket_too_deep f text opening d.0
          (subst (λ k. IsFault k f (fault too_highly_nested 0)) whole_rest d.1)
      by f (inr (inl c)) = bracket_cut_off f text c.0 opening c.1 c.2 c.3 c.4
      by f (inr (inr k)) =
          bracket_broken f text k.0 k.1 opening k.2 k.3 k.4 k.5
          (k.6 (length (before_inner b.h b.before.list b.before.white ++ spelling k.0))
          (inner_position text k.0 k.1 opening k.5))

  pub one_more : {text later white' rest' : Text} {tree : Tree} → rest ≡ left ∷ text
      → IsNested v limit n text tree later → IsCut is_white later white' rest'
      → BracketBefore v limit n inside judged remaining (read ++ tree ∷ []) rest'
  one_more {text} {later} {white'} {rest'} {tree} opening is cut = record {
    h = b.h;
    after = b.after;
    begins = b.begins;
    before = nested_step v limit n (b.begins.white ++ b.after) judged.spaced remaining read rest text
        later white' rest' is.0 tree b.before opening is.1 is.2 is.3 cut is.4;
  }

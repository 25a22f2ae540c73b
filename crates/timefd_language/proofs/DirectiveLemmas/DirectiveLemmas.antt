-- Directives, read one at a time.
use Rattle.std.proofs.Common.{◌≡◌, ℕ, ◌+◌, ◌<◌, ◌≤◌, lit<, true, append-nil, append_assoc, List, [], ◌∷◌, ◌++◌, Option, Some, None, MatchOption, length, map, get_or, drop, refl, sym, ap, ◌∙◌, subst, arith, length-append, IsTrue, IsUtf8}
use Rattle.std.proofs.lemmas.Bool.{both_ways}
use Rattle.std.proofs.lemmas.List.{map-append}
use Rattle.std.proofs.lemmas.Bool.Decides.{nat_tests}
use Rattle.std.specs.Borrow.{Bor}
use Rattle.std.specs.Char.{is_ascii}
use Rattle.std.specs.Prelude.{chars}
use Rattle.timefd_modifier.specs.declared.enums.Padding.{Padding}
use Rattle.timefd_lang_node_list.specs.declared.item.borrowed_format_item.BorrowedFormatItem.{BorrowedFormatItem}
use Rattle.timefd_lang_fault.specs.Faults.{Fault}
use Rattle.timefd_lang_node_list.specs.Item.Meaning.{item_tree}
use Rattle.timefd_lang_component.specs.Tree.{Text, Tree, literal}
use Rattle.timefd_language.specs.Bytes.{OneOrMore, StopsBefore}
use Rattle.timefd_language.specs.Letters.{Flag, unflagged, flagged, item_of}
use Rattle.timefd_language.specs.declared.strftime.letter.Letter.{Letter}
use Rattle.timefd_language.specs.declared.strftime.piece.StrftimePiece.{StrftimePiece}
use Rattle.timefd_language.specs.Directives.LetterMeaning.{IsLetter, flag_padding, letter_tree}
use Rattle.timefd_language.specs.Directives.PieceMeaning.{piece_tree}
use Rattle.timefd_language.specs.Strftime.{percent, is_flag, is_plain, flag_text, Directives, no_directives, plain, directive, directives_text, directive_items, IsAfter, AreDirectives, SpellsStrftime, cut_short, unknown, cut_index, ill_text, unknown_kind, ill_fault, StrftimeFaultOf}
use Rattle.timefd_language.specs.Laws.{HasOneStrftimeAnswer}
use Rattle.timefd_lang_fault.specs.declared.read_error.Fault as code_fault
use Rattle.timefd_lang_fault.specs.declared.read_error.ReadError.{ReadError}
use Rattle.timefd_lang_fault.specs.declared.read_error.ReadError.TheVariants as errors
use Rattle.timefd_lang_fault.specs.declared.borrowed_parse_error.ParseError.{ParseError}
use Rattle.timefd_lang_fault.specs.declared.borrowed_parse_error.ParseError.TheVariants as reported
use Rattle.timefd_lang_fault.specs.declared.borrowed_fault.BorrowedFault.{BorrowedFault}
use Rattle.timefd_lang_fault.specs.declared.borrowed_parse_error.BorrowedParseError.{BorrowedParseError}
use Rattle.timefd_lang_fault.specs.declared.borrowed_parse_error.BorrowedParseError.TheVariants.{Invalid, Memory}
use Rattle.timefd_lang_fault.specs.BorrowedFaults.{to_borrowed_fault, IsBorrowed, IsBorrowedOf, IsBorrowedFault, IsMemory, IsOwned, Borrows, BorrowsSpan}
use Rattle.timefd_lang_fault.proofs.BorrowedLemmas.{Assigned, borrowed_none, borrowed_of, borrowed_one}
use Rattle.timefd_lang_fault.specs.ReadErrors.{IsInvalid}
use Rattle.timefd_lang_fault.proofs.OwnedLemmas.{owned_of}
use Rattle.timefd_language.specs.Fault.{raised}
use Rattle.timefd_lang_fault.specs.Words.{expected_escape}
use Rattle.timefd_language.specs.Cut.{IsCut}
use Rattle.timefd_language.specs.declared.description_version.Language.TheVariants as languages
use Rattle.timefd_language.specs.Spans.{HasSpan, IsSpanned, SpansStrftime, WantsNothing, first_len, strftime_extent}
use Rattle.timefd_language.proofs.SpanLemmas.{no_len, spanned, spans_after, spans_byte, spans_character}
use Rattle.timefd_language.specs.Directives.StrftimeReading.{MayFollow, BeginsWithFlag, BeginsWithPiece, Leads, LeadsTo, HasItems, IsStrftimeFaultAt, IsStrftimeFaultIn, IsRestOf}
use Rattle.timefd_lang_fault.specs.RuleKinds.{rule_kind}
use Rattle.timefd_lang_fault.specs.Slots.{wanted_by}
use Rattle.timefd_lang_fault.specs.ReadErrors.{IsFault, MemoryOr}
use Rattle.timefd_language.specs.Directives.StrftimeAnswers.{IsStrftimeFault}
use Rattle.timefd_language.proofs.StrftimeReader.{directive_regrouped, begins_no_plain, strftime_one_answer_law}

pub ascii_below : (b : ℕ) → is_ascii b ≡ true → b < 128
ascii_below b e = grind (arith, nat_tests)

pub first_and_rest : (text : Text) → 0 < length text → text ≡ get_or text 0 0 ∷ drop 1 text
first_and_rest [] some = absurd (omega arith)
first_and_rest (b ∷ text) some = refl

pub none_left : (text : Text) → length text < 1 → text ≡ []
none_left [] none = refl
none_left (b ∷ text) none = absurd (omega arith)

-- Directives.

is_after : (f : Flag) (b : ℕ) (rest unread : Text) → rest ≡ b ∷ unread → MayFollow f rest
    → IsAfter f b
is_after unflagged b rest unread e h = subst (StopsBefore is_flag) e h
is_after (flagged c) b rest unread e h = tt

-- what a letter after the flag stands for leads on
letter_leads : (after rest unread : Text) (padding : Option Padding) (b : ℕ) (tree : Tree)
    (h : BeginsWithFlag after padding rest) → rest ≡ b ∷ unread
    → item_of h.0 b ≡ Some tree → Leads (percent ∷ after) tree unread
letter_leads after rest unread padding b tree h e of = λ front tail are i. (
  directive h.0 b tree front,
  (h.1, is_after h.0 b rest unread e h.4, of, are),
  ap (λ t. percent ∷ t) (h.3 ∙ ap (λ t. flag_text h.0 ++ t) (e ∙ ap (λ t. b ∷ t) i)) ∙
      sym (directive_regrouped h.0 b (directives_text front) tail),
  refl,
)

flag_shorter : (after rest unread : Text) (padding : Option Padding) (b : ℕ)
    → BeginsWithFlag after padding rest → rest ≡ b ∷ unread → IsUtf8 unread
    → IsRestOf (percent ∷ after) unread
flag_shorter after rest unread padding b h e utf8 = record {
  shorter = omega (arith, ap length h.3, length-append (flag_text h.0) rest, ap length e);
  utf8 = utf8;
}

pub directive_leads : (after rest unread : Text) (padding : Option Padding) (b : ℕ)
    (piece : StrftimePiece) (item : Flag → Tree) → BeginsWithFlag after padding rest
    → rest ≡ b ∷ unread → ((f : Flag) → item_of f b ≡ Some (item f))
    → ((f : Flag) → flag_padding f ≡ padding → piece_tree piece ≡ item f) → IsUtf8 unread
    → BeginsWithPiece (percent ∷ after) piece unread
directive_leads after rest unread padding b piece item h e of is utf8 = record {
  leads = letter_leads after rest unread padding b (piece_tree piece) h e
      (of h.0 ∙ ap Some (sym (is h.0 h.2)));
  left = flag_shorter after rest unread padding b h e utf8;
}

pub directive_leads_to : (after rest unread : Text) (padding : Option Padding) (b : ℕ)
    (letter : Letter) → BeginsWithFlag after padding rest
    → rest ≡ b ∷ unread → IsLetter b (Some letter) → IsUtf8 unread → LeadsTo (percent ∷ after) unread
directive_leads_to after rest unread padding b letter h e of utf8 = record {
  tree = letter_tree letter h.0;
  leads = letter_leads after rest unread padding b (letter_tree letter h.0) h e (of h.0);
  left = flag_shorter after rest unread padding b h e utf8;
}

pub directive_unknown : (after rest : Text) (padding : Option Padding) (bad : code_fault.Fault)
    → BeginsWithFlag after padding rest → 0 < length rest
    → ((f : Flag) → item_of f (get_or rest 0 0) ≡ None)
    → rule_kind bad.rule ≡ unknown_kind (get_or rest 0 0) → bad.remaining ≡ length rest
    → bad.len ≡ first_len (chars rest) → bad.len ≤ length rest → wanted_by bad.rule ≡ None
    → IsStrftimeFaultAt (percent ∷ after) bad
directive_unknown after rest padding bad h some none kind position len within wanted =
    let e : rest ≡ get_or rest 0 0 ∷ drop 1 rest = first_and_rest rest some in (
      unknown h.0 (get_or rest 0 0) (drop 1 rest),
      (h.1, is_after h.0 (get_or rest 0 0) rest (drop 1 rest) e h.4, none h.0),
      ap (λ t. percent ∷ t) (h.3 ∙ ap (λ t. flag_text h.0 ++ t) e),
      record {
        kind = sym kind;
        position =
            omega (arith, position, ap length h.3, length-append (flag_text h.0) rest);
      },
      spans_character strftime_extent WantsNothing (percent ∷ after) (percent ∷ flag_text h.0) rest bad
          (ap (λ t. percent ∷ t) h.3) refl position len within wanted,
    )

-- at the end: the `%`, or nothing
cut_short_spans : (f : Flag) (bad : code_fault.Fault)
    → cut_index f + bad.remaining ≡ 1 + length (flag_text f) → bad.len ≡ bad.remaining
    → wanted_by bad.rule ≡ None → SpansStrftime (percent ∷ flag_text f) bad
cut_short_spans unflagged bad at len wanted =
    spans_byte strftime_extent WantsNothing (percent ∷ []) [] percent [] bad refl (lit< tt) refl
    (omega (arith, at)) (omega (arith, at, len)) wanted
cut_short_spans (flagged b) bad at len wanted =
    spans_character strftime_extent WantsNothing (percent ∷ b ∷ []) (percent ∷ b ∷ []) [] bad refl refl
    (omega (arith, at)) (omega (arith, at, len, no_len)) (omega (arith, at, len)) wanted

pub directive_cut_short : (after rest : Text) (padding : Option Padding) (bad : code_fault.Fault)
    → BeginsWithFlag after padding rest → rest ≡ []
    → rule_kind bad.rule ≡ expected_escape
    → ((f : Flag) → flag_padding f ≡ padding
    → cut_index f + bad.remaining ≡ 1 + length (flag_text f))
    → bad.len ≡ bad.remaining → wanted_by bad.rule ≡ None → IsStrftimeFaultAt (percent ∷ after) bad
directive_cut_short after rest padding bad h none kind position len wanted =
    let whole : percent ∷ after ≡ percent ∷ flag_text h.0 =
    ap (λ t. percent ∷ t) (h.3 ∙ ap (λ t. flag_text h.0 ++ t) none ∙ append-nil (flag_text h.0)) in (
      cut_short h.0,
      h.1,
      whole,
      record {
        kind = sym kind;
        position =
            omega (
              arith,
              position h.0 h.2,
              ap length h.3,
              length-append (flag_text h.0) rest,
              ap length none,
            );
      },
      subst (λ t. SpansStrftime t bad) (sym whole)
          (cut_short_spans h.0 bad (position h.0 h.2) len wanted),
    )

-- Runs.

run_some : (text front rest : Text) (b : ℕ) (more : Text) → IsCut is_plain text front rest
    → text ≡ b ∷ more → IsTrue (is_plain b) → OneOrMore is_plain front
run_some text [] rest b more is e passes =
    absurd (both_ways (is_plain b) (subst (StopsBefore is_plain) (sym is.whole ∙ e) is.stops)
    passes)
run_some text (c ∷ front) rest b more is e passes = is.passes

pub run_leads : (text front rest : Text) (b : ℕ) (more : Text) → IsCut is_plain text front rest
    → text ≡ b ∷ more → IsTrue (is_plain b) → Leads text (literal front) rest
run_leads text bytes rest b more is e passes = λ front tail are f. (
  plain bytes front,
  (
    run_some text bytes rest b more is e passes,
    begins_no_plain front tail are (subst (StopsBefore is_plain) f is.stops),
    are,
  ),
  is.whole ∙ ap (λ t. bytes ++ t) f ∙ sym (append_assoc bytes (directives_text front) tail),
  refl,
)

some_length : (front : Text) → OneOrMore is_plain front → 0 < length front
some_length [] some = absurd some
some_length (b ∷ front) some = omega arith

pub run_leads_to : (text front rest : Text) (b : ℕ) (more : Text) → IsCut is_plain text front rest
    → text ≡ b ∷ more → IsTrue (is_plain b) → IsUtf8 rest → LeadsTo text rest
run_leads_to text bytes rest b more is e passes utf8 = record {
  tree = literal bytes;
  leads = run_leads text bytes rest b more is e passes;
  left = record {
    shorter = omega (
      arith,
      ap length is.whole,
      length-append bytes rest,
      some_length bytes (run_some text bytes rest b more is e passes),
    );
    utf8 = utf8;
  };
}

pub leads_from : (text same : Text) (rest unread : Bor (List ℕ)) → text ≡ same → unread ≡ rest
    → LeadsTo same rest.now → LeadsTo text unread.now
leads_from text same rest unread e a to =
    subst (λ (r : Bor (List ℕ)). LeadsTo text r.now) (sym a)
    (subst (λ (t : Text). LeadsTo t rest.now) (sym e) to)

-- What was read of a text so far: what the rest begins with, the text has after the trees.
abbrev pub Continues : Text → List Tree → Text → Type 0
Continues text done rest =
    (front : Directives) (tail : Text) → AreDirectives front → rest ≡ directives_text front ++ tail
    → (whole : Directives) × AreDirectives whole × (text ≡ directives_text whole ++ tail)
    × (directive_items whole ≡ done ++ directive_items front)

pub continues_first : (text : Text) → Continues text [] text
continues_first text = λ front tail are e. (front, are, e, refl)

pub continues_more : (text rest unread : Text) (done : List Tree) (tree : Tree)
    → Continues text done rest → Leads rest tree unread → Continues text (done ++ tree ∷ []) unread
continues_more text rest unread done tree before leads = λ front tail are e.
    let a = leads front tail are e in
    let w = before a.0 tail a.1 a.2 in (
      w.0,
      w.1,
      w.2,
      w.3 ∙ ap (λ ts. done ++ ts) a.3 ∙
          sym (append_assoc done (tree ∷ []) (directive_items front)),
    )

-- one more item that was read
pub items_more : (text rest unread : Text) (done : List BorrowedFormatItem)
    (item : BorrowedFormatItem) (tree : Tree) → item_tree item ≡ tree
    → Continues text (map item_tree done) rest → Leads rest tree unread
    → Continues text (map item_tree (done ++ item ∷ [])) unread
items_more text rest unread done item tree is before leads =
    subst (λ (trees : List Tree). Continues text trees unread)
    (ap (λ t. map item_tree done ++ t ∷ []) (sym is) ∙ sym (map-append item_tree done (item ∷ [])))
    (continues_more text rest unread (map item_tree done) tree before leads)

pub all_read : (text rest : Text) (done : List Tree) → Continues text done rest → rest ≡ []
    → SpellsStrftime text done
all_read text rest done before end =
    let w = before no_directives rest tt refl in (
      w.0,
      w.1,
      w.2 ∙ ap (λ t. directives_text w.0 ++ t) end ∙ append-nil (directives_text w.0),
      sym (w.3 ∙ append-nil done),
    )

-- this many pieces of a text were read, up to the rest
abbrev pub CountsTo : Text → ℕ → Text → Type 0
CountsTo text n rest = (done : List Tree) × Continues text done rest × (n ≡ length done)

pub counts_none : (text : Text) → CountsTo text 0 text
counts_none text = ([], continues_first text, refl)

pub counts_more : (text rest unread : Text) (n : ℕ) → CountsTo text n rest → LeadsTo rest unread
    → CountsTo text (n + 1) unread
counts_more text rest unread n before to = (
  before.0 ++ to.tree ∷ [],
  continues_more text rest unread before.0 to.tree before.1 to.leads,
  omega (arith, before.2, length-append before.0 (to.tree ∷ [])),
)

pub all_counted : (text rest : Text) (n : ℕ) → CountsTo text n rest → rest ≡ [] → HasItems text n
all_counted text rest n before end = (before.0, all_read text rest before.0 before.1 end, before.2)

pub fault_after : (text rest : Text) (done : List Tree) (f : code_fault.Fault)
    → Continues text done rest → IsStrftimeFaultAt rest f → IsStrftimeFaultIn text f
fault_after text rest done f before bad =
    let w = before no_directives rest tt refl in (
      w.0,
      bad.0,
      w.1,
      bad.1,
      w.2 ∙ ap (λ t. directives_text w.0 ++ t) bad.2,
      subst (λ (t : Text). IsFault (length t) f (ill_fault bad.0)) bad.2 bad.3,
      spans_after strftime_extent WantsNothing (λ before front r h. h) text (directives_text w.0) rest f w.2
          bad.4,
    )

pub counted_fault : (text rest : Text) (n : ℕ) (f : code_fault.Fault) → CountsTo text n rest
    → IsStrftimeFaultAt rest f → IsStrftimeFaultIn text f
counted_fault text rest n f before bad = fault_after text rest before.0 f before.1 bad

-- Whole texts.

pub whole_fault : (text : Text) (f : code_fault.Fault) → IsStrftimeFaultIn text f
    → Assigned (StrftimeFaultOf text) (length text) f
whole_fault text f h = record {
  g = raised (ill_fault h.1) (length (directives_text h.0));
  assigned = (h.0, h.1, h.2, h.3, h.4, refl);
  is = record {
    kind = h.5.kind;
    position =
        omega (arith, h.5.position, ap length h.4, length-append (directives_text h.0) (ill_text h.1));
  };
}

pub one : (text : Text) → HasOneStrftimeAnswer text
one text = (strftime_one_answer_law text).1

pub counted_once : (text : Text) (n : ℕ) → HasItems text n → (list : List Tree)
    → SpellsStrftime text list → n ≡ length list
counted_once text n found list s = found.2 ∙ ap length ((one text).one_list found.0 list found.1 s)

pub counted_unrefused : (text : Text) (n : ℕ) → HasItems text n → (f : Fault)
    → StrftimeFaultOf text f → ⊥
counted_unrefused text n found f h = (one text).not_both found.0 f found.1 h

-- The borrowed error that the caller gets.

whole : (text : Text) (e : ReadError) → MemoryOr (IsStrftimeFaultIn text) e
    → MemoryOr (Assigned (StrftimeFaultOf text) (length text)) e
whole text (errors.Invalid f) h = whole_fault text f h
whole text errors.Memory h = tt

pub borrowed_strftime : (text : Text) (e : ReadError) (r : BorrowedParseError)
    → MemoryOr (IsStrftimeFaultIn text) e → Borrows (length text) e r
    → IsBorrowedOf (StrftimeFaultOf text) r
borrowed_strftime text e r h = borrowed_of (StrftimeFaultOf text) (length text) e r (whole text e h)

pub borrowed_strftime_fault : (text : Text) (f : code_fault.Fault) (b : BorrowedFault)
    → IsStrftimeFaultIn text f → ((g : Fault) → IsFault (length text) f g → to_borrowed_fault b ≡ g)
    → StrftimeFaultOf text (to_borrowed_fault b)
borrowed_strftime_fault text f b h borrowed =
    let w = whole_fault text f h in
    subst (StrftimeFaultOf text) (sym (borrowed w.g w.is)) w.assigned

pub borrowed_strftime_spelled : (text : Text) (e : ReadError) (r : BorrowedParseError)
    (list : List Tree) → MemoryOr (IsStrftimeFaultIn text) e → Borrows (length text) e r
    → SpellsStrftime text list → IsMemory r
borrowed_strftime_spelled text e r list h borrowed s =
    borrowed_none (StrftimeFaultOf text) (length text) (λ g is. (one text).not_both list g s is) e r
    (whole text e h) borrowed

pub borrowed_strftime_refused : (text : Text) (e : ReadError) (r : BorrowedParseError) (f : Fault)
    → MemoryOr (IsStrftimeFaultIn text) e → IsInvalid e → Borrows (length text) e r
    → StrftimeFaultOf text f → IsBorrowed f r
borrowed_strftime_refused text e r f h is borrowed has =
    borrowed_one (StrftimeFaultOf text) (length text) f
    (λ g other. (one text).one_fault g f other has) e r (whole text e h) is borrowed

-- the borrowed fault ends after what is at fault

pub spanned_strftime_fault : (text : Text) (f : code_fault.Fault) (b : BorrowedFault)
    → SpansStrftime text f → IsBorrowedFault (length text) f b → IsSpanned languages.Strftime text b
spanned_strftime_fault text f b =
    spanned strftime_extent WantsNothing languages.Strftime text f b (λ k. refl) (λ before rest e h. h)

pub spanned_strftime : (text : Text) (e : ReadError) (r : BorrowedParseError)
    → MemoryOr (IsStrftimeFaultIn text) e → BorrowsSpan (length text) e r → HasSpan languages.Strftime text r
spanned_strftime text e (Memory m) h borrowed = tt
spanned_strftime text errors.Memory (Invalid b) h borrowed = absurd borrowed
spanned_strftime text (errors.Invalid f) (Invalid b) h borrowed =
    spanned_strftime_fault text f b h.6 borrowed

-- an error other than lack of memory is a fault
pub is_invalid : (e : ReadError) → (e ≡ errors.Memory → ⊥) → IsInvalid e
is_invalid (errors.Invalid f) other = tt
is_invalid errors.Memory other = other refl

-- The owned error that the caller gets.

pub owned_strftime : (text : Text) (e : BorrowedParseError) (r : ParseError)
    → IsBorrowedOf (StrftimeFaultOf text) e → IsOwned e r → IsStrftimeFault text r
owned_strftime text e (reported.Memory m) is owned = tt
owned_strftime text e (reported.Invalid x) is owned = owned_of (StrftimeFaultOf text) e x is owned

-- the next piece, if there is one
abbrev pub IsNext : Text → Option (StrftimePiece × Bor (List ℕ)) → Type 0
IsNext text found = MatchOption found (text ≡ []) (λ x. BeginsWithPiece text x.0 x.1.now)

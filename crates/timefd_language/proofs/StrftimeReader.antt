-- Texts of strftime: reading, and the laws.
use Rattle.std.proofs.Common.{ℕ, zero, suc, ◌≡◌, ◌+◌, ◌<◌, ◌≤◌, inl, inr, Bool, true, false, ◌==◌, List, [], ◌∷◌, ◌++◌, Option, Some, None, Result, Ok, Err, length, length-append, refl, sym, ◌∙◌, ap, subst, arith, append_assoc, append-nil, eqb-true}
use Rattle.std.specs.Bool.{⊤}
use Rattle.std.specs.List.{list_all}
use Rattle.std.proofs.lemmas.Bool.{and_parts, and_from, both_ways, not-false}
use Rattle.timefd_lang_component.specs.Tree.{Text, Tree, literal, joined, before_joined}
use Rattle.timefd_language.specs.Bytes.{OneOrMore, StopsBefore}
use Rattle.timefd_lang_fault.specs.Faults.{Fault}
use Rattle.timefd_language.specs.Fault.{raised}
use Rattle.timefd_language.specs.Strftime.{percent, is_flag, is_plain, flag_text, IsFlag, Directives, no_directives, plain, directive, directives_text, directive_items, BeginsNoPlain, IsAfter, AreDirectives, SpellsStrftime, IllDirective, cut_short, unknown, ill_text, ill_fault, IsIll, StrftimeFaultOf}
use Rattle.timefd_language.specs.Letters.{Flag, unflagged, flagged, item_of}
use Rattle.timefd_language.specs.Laws.{StrftimeIsAnswered, OneStrftimeAnswer, OneStrftimeCut, StrftimeJoining, StrftimeShift}
use Rattle.timefd_language.proofs.Reader.{span}
use Rattle.timefd_language.proofs.Spans.{IsSpan, span-is_span, span-exact}
use Rattle.timefd_language.proofs.Join.{literals_joined, one-append, raised-raised}

-- Reading.

pub data DirectiveStart : Type 0 where
  at_directives_end : DirectiveStart
  at_plain : Text → Text → DirectiveStart
  at_directive : Flag → ℕ → Tree → Text → DirectiveStart
  at_ill : IllDirective → DirectiveStart

abbrev lettered : Flag → ℕ → Text → Option Tree → DirectiveStart
lettered f b rest (Some tree) = at_directive f b tree rest
lettered f b rest None = at_ill (unknown f b rest)

unfoldable after_flag : Flag → Text → DirectiveStart
after_flag f [] = at_ill (cut_short f)
after_flag f (b ∷ rest) = lettered f b rest (item_of f b)

unfoldable after_percent : Text → DirectiveStart
after_percent [] = after_flag unflagged []
after_percent (b ∷ text) = elim (is_flag b)
    [ true ↦ after_flag (flagged b) text | false ↦ after_flag unflagged (b ∷ text) ]

unfoldable directive_start : Text → DirectiveStart
directive_start [] = at_directives_end
directive_start (b ∷ text) = elim (is_plain b) [
  | true ↦ (let c = span is_plain text in at_plain (b ∷ c.front) c.rest)
  | false ↦ after_percent
      text
]

pub record StrftimeReading : Type 0 where
  pub front : Directives
  pub stop : Option IllDirective

abbrev strftime_reading : Directives → Option IllDirective → StrftimeReading
strftime_reading front stop = record { front = front; stop = stop }

abbrev continued_strftime : (Text → StrftimeReading) → DirectiveStart → StrftimeReading
continued_strftime next at_directives_end = strftime_reading no_directives None
continued_strftime next (at_plain bytes rest) = let r = next rest in strftime_reading (plain bytes r.front) r.stop
continued_strftime next (at_directive f b tree rest) = let r = next rest in
    strftime_reading (directive f b tree r.front) r.stop
continued_strftime next (at_ill ill) = strftime_reading no_directives (Some ill)

unfoldable read_strftime : ℕ → Text → StrftimeReading
read_strftime zero text = strftime_reading no_directives None
read_strftime (suc k) text = continued_strftime (λ t. read_strftime k t) (directive_start text)

read_strftime-from : (k : ℕ) (text : Text) (s : DirectiveStart) → directive_start text ≡ s
    → read_strftime (suc k) text ≡ continued_strftime (λ t. read_strftime k t) s
unfolding read_strftime
read_strftime-from k text s e = ap (continued_strftime (λ t. read_strftime k t)) e

-- A text that is put together from pieces is read as those pieces.

start-plain : (bytes rest : Text) → OneOrMore is_plain bytes → StopsBefore is_plain rest
    → directive_start (bytes ++ rest) ≡ at_plain bytes rest
unfolding directive_start
start-plain [] rest h s = absurd h
start-plain (b ∷ bytes) rest h s =
    let p = and_parts (is_plain b) (list_all is_plain bytes) h in
    rw (p.0, directive_start) (ap (λ c. at_plain (b ∷ c.front) c.rest)
    (span-exact is_plain bytes rest p.1 s))

start-percent : (f : Flag) (b : ℕ) (rest : Text) → IsFlag f → IsAfter f b
    → directive_start (percent ∷ (flag_text f ++ b ∷ rest)) ≡ lettered f b rest (item_of f b)
unfolding directive_start after_percent after_flag
start-percent unflagged b rest i h = rw (h, after_percent) refl
start-percent (flagged c) b rest i h = rw (i, after_percent) refl

start-cut : (f : Flag) → IsFlag f → directive_start (percent ∷ flag_text f) ≡ at_ill (cut_short f)
unfolding directive_start after_percent after_flag
start-cut unflagged i = refl
start-cut (flagged c) i = rw (i, after_percent) refl

start-ill : (ill : IllDirective) → IsIll ill → directive_start (ill_text ill) ≡ at_ill ill
start-ill (cut_short f) is = start-cut f is
start-ill (unknown f b rest) is = start-percent f b rest is.0 is.1 ∙ ap (lettered f b rest) is.2

abbrev stop_text : Option IllDirective → Text
stop_text None = []
stop_text (Some ill) = ill_text ill

abbrev IsStop : Option IllDirective → Type 0
IsStop None = ⊤
IsStop (Some ill) = IsIll ill

stop_stops : (stop : Option IllDirective) → StopsBefore is_plain (stop_text stop)
stop_stops None = tt
stop_stops (Some (cut_short f)) = refl
stop_stops (Some (unknown f b rest)) = refl

plain_stops_after : (ds : Directives) (stop : Option IllDirective) → BeginsNoPlain ds
    → StopsBefore is_plain (directives_text ds ++ stop_text stop)
plain_stops_after no_directives stop h = stop_stops stop
plain_stops_after (plain bytes rest) stop h = absurd h
plain_stops_after (directive f b tree rest) stop h = refl

empty_start : directive_start [] ≡ at_directives_end
unfolding directive_start
empty_start = refl

pub directive_regrouped : (f : Flag) (b : ℕ) (x y : Text)
    → (percent ∷ (flag_text f ++ b ∷ x)) ++ y ≡ percent ∷ (flag_text f ++ b ∷ (x ++ y))
directive_regrouped unflagged b x y = refl
directive_regrouped (flagged c) b x y = refl

directive_longer : (f : Flag) (b : ℕ) (x : Text)
    → 2 + length x ≤ length (percent ∷ (flag_text f ++ b ∷ x))
directive_longer unflagged b x = omega arith
directive_longer (flagged c) b x = omega arith

plain_longer : (bytes x : Text) → OneOrMore is_plain bytes → 1 + length x ≤ length (bytes ++ x)
plain_longer [] x h = absurd h
plain_longer (b ∷ bytes) x h = omega (arith, length-append bytes x)

read_all : (ds : Directives) (stop : Option IllDirective) → AreDirectives ds → IsStop stop → (k : ℕ)
    → length (directives_text ds ++ stop_text stop) < k
    → read_strftime k (directives_text ds ++ stop_text stop) ≡ strftime_reading ds stop
read_all ds stop are is zero enough = absurd (omega arith)
read_all no_directives None are is (suc k) enough = read_strftime-from k [] at_directives_end empty_start
read_all no_directives (Some ill) are is (suc k) enough =
    read_strftime-from k (ill_text ill) (at_ill ill) (start-ill ill is)
read_all (plain bytes rest) stop are is (suc k) enough =
    ap (read_strftime (suc k)) (append_assoc bytes (directives_text rest) (stop_text stop))
    ∙ read_strftime-from k (bytes ++ (directives_text rest ++ stop_text stop))
    (at_plain bytes (directives_text rest ++ stop_text stop))
    (start-plain bytes (directives_text rest ++ stop_text stop) are.0
    (plain_stops_after rest stop are.1))
    ∙ ap (λ r. strftime_reading (plain bytes r.front) r.stop) (read_all rest stop are.2 is k
    (omega (
      arith,
      ap length (append_assoc bytes (directives_text rest) (stop_text stop)),
      plain_longer bytes (directives_text rest ++ stop_text stop) are.0,
    )))
read_all (directive f b tree rest) stop are is (suc k) enough =
    ap (read_strftime (suc k)) (directive_regrouped f b (directives_text rest) (stop_text stop))
    ∙ read_strftime-from k (percent ∷ (flag_text f ++ b ∷ (directives_text rest ++ stop_text stop)))
    (at_directive f b tree (directives_text rest ++ stop_text stop))
    (start-percent f b (directives_text rest ++ stop_text stop) are.0 are.1 ∙
    ap (lettered f b (directives_text rest ++ stop_text stop)) are.2)
    ∙ ap (λ r. strftime_reading (directive f b tree r.front) r.stop) (read_all rest stop are.3 is k
    (omega (
      arith,
      ap length (directive_regrouped f b (directives_text rest) (stop_text stop)),
      directive_longer f b (directives_text rest ++ stop_text stop),
    )))

-- The text really consists of what reading finds.

record ReadsStrftime (text : Text) (r : StrftimeReading) : Type 0 where
  front : AreDirectives r.front
  stop : IsStop r.stop
  whole : text ≡ directives_text r.front ++ stop_text r.stop

one_strftime_read : (text : Text) (r s : StrftimeReading) → ReadsStrftime text r → ReadsStrftime text s → r ≡ s
one_strftime_read text r s h k =
    sym (read_all r.front r.stop h.front h.stop (suc (length text))
    (omega (arith, ap length h.whole)))
    ∙ ap (read_strftime (suc (length text))) (sym h.whole ∙ k.whole)
    ∙ read_all s.front s.stop k.front k.stop (suc (length text)) (omega (arith, ap length k.whole))

abbrev DirectiveStartIs : Text → DirectiveStart → Type 0
DirectiveStartIs text at_directives_end = text ≡ []
DirectiveStartIs text (at_plain bytes rest) = OneOrMore is_plain bytes × StopsBefore is_plain rest
    × (text ≡ bytes ++ rest)
DirectiveStartIs text (at_directive f b tree rest) = IsFlag f × IsAfter f b × (item_of f b ≡ Some tree)
    × (text ≡ percent ∷ (flag_text f ++ b ∷ rest))
DirectiveStartIs text (at_ill ill) = IsIll ill × (text ≡ ill_text ill)

lettered_is : (f : Flag) (b : ℕ) (rest : Text) (o : Option Tree) → IsFlag f → IsAfter f b
    → item_of f b ≡ o → DirectiveStartIs (percent ∷ (flag_text f ++ b ∷ rest)) (lettered f b rest o)
lettered_is f b rest (Some tree) i h e = (i, h, e, refl)
lettered_is f b rest None i h e = ((i, h, e), refl)

after_percent_is : (text : Text) → DirectiveStartIs (percent ∷ text) (after_percent text)
unfolding after_percent after_flag
after_percent_is [] = (tt, refl)
after_percent_is (b ∷ text) = by (is_flag b) refl
  where
    second : (rest : Text) → is_flag b ≡ true
        → DirectiveStartIs (percent ∷ b ∷ rest) (after_flag (flagged b) rest)
    second [] e = (e, refl)
    second (c ∷ rest) e = lettered_is (flagged b) c rest (item_of (flagged b) c) e tt refl

    by : (t : Bool) → is_flag b ≡ t
        → DirectiveStartIs (percent ∷ b ∷ text)
        (elim t [ true ↦ after_flag (flagged b) text | false ↦ after_flag unflagged (b ∷ text) ])
    by true e = second text e
    by false e = lettered_is unflagged b text (item_of unflagged b) tt e refl

directive_start_is : (text : Text) → DirectiveStartIs text (directive_start text)
unfolding directive_start
directive_start_is [] = refl
directive_start_is (b ∷ text) = by (is_plain b) refl
  where
    c : IsSpan is_plain text (span is_plain text)
    c = span-is_span is_plain text

    by : (t : Bool) → is_plain b ≡ t
        → DirectiveStartIs (b ∷ text) (elim t [
          | true ↦ (let c = span is_plain text in at_plain (b ∷ c.front) c.rest)
          | false ↦
              after_percent text
        ])
    by true e = (and_from (is_plain b) _ e c.passes, c.stops, ap (λ x. b ∷ x) c.joined)
    by false e = subst (λ x. DirectiveStartIs (x ∷ text) (after_percent text))
        (sym (eqb-true b percent (not-false (b == percent) e))) (after_percent_is text)

pub begins_no_plain : (ds : Directives) (tail : Text) → AreDirectives ds
    → StopsBefore is_plain (directives_text ds ++ tail) → BeginsNoPlain ds
begins_no_plain no_directives tail are s = tt
begins_no_plain (plain [] rest) tail are s = absurd are.0
begins_no_plain (plain (b ∷ bytes) rest) tail are s =
    absurd (both_ways (is_plain b) s (and_parts (is_plain b) (list_all is_plain bytes) are.0).0)
begins_no_plain (directive f b tree rest) tail are s = tt

continued_strftime_is : (text : Text) (next : Text → StrftimeReading) (s : DirectiveStart) → DirectiveStartIs text s
    → ((t : Text) → length t < length text → ReadsStrftime t (next t)) → ReadsStrftime text (continued_strftime next s)
continued_strftime_is text next at_directives_end is more = record { front = tt; stop = tt; whole = is }
continued_strftime_is text next (at_plain bytes rest) is more =
    with_rest (more rest (omega (arith, ap length is.2, plain_longer bytes rest is.0)))
  where
    with_rest : ReadsStrftime rest (next rest) → ReadsStrftime text (continued_strftime next (at_plain bytes rest))
    with_rest r = record {
      front = (
        is.0,
        begins_no_plain (next rest).front (stop_text (next rest).stop) r.front
            (subst (StopsBefore is_plain) r.whole is.1),
        r.front,
      );
      stop = r.stop;
      whole = is.2 ∙ ap (λ x. bytes ++ x) r.whole ∙ sym (append_assoc bytes _ _);
    }
continued_strftime_is text next (at_directive f b tree rest) is more =
    with_rest (more rest (omega (arith, ap length is.3, directive_longer f b rest)))
  where
    with_rest : ReadsStrftime rest (next rest) → ReadsStrftime text (continued_strftime next (at_directive f b tree rest))
    with_rest r = record {
      front = (is.0, is.1, is.2, r.front);
      stop = r.stop;
      whole = is.3 ∙ ap (λ x. percent ∷ (flag_text f ++ b ∷ x)) r.whole ∙
          sym (directive_regrouped f b (directives_text (next rest).front)
          (stop_text (next rest).stop));
    }
continued_strftime_is text next (at_ill ill) is more = record { front = tt; stop = is.0; whole = is.1 }

found_strftime : (k : ℕ) (text : Text) → length text < k → ReadsStrftime text (read_strftime k text)
unfolding read_strftime
found_strftime zero text enough = absurd (omega arith)
found_strftime (suc k) text enough = continued_strftime_is text (λ t. read_strftime k t) (directive_start text) (directive_start_is text)
    (λ t below. found_strftime k t (omega arith))

-- The laws.

strftime_spelled_reads : (text : Text) (list : List Tree) (h : SpellsStrftime text list)
    → ReadsStrftime text (strftime_reading h.0 None)
strftime_spelled_reads text list h = record {
  front = h.1;
  stop = tt;
  whole =
      h.2 ∙ sym (append-nil (directives_text h.0));
}

strftime_fault_reads : (text : Text) (f : Fault) (h : StrftimeFaultOf text f)
    → ReadsStrftime text (strftime_reading h.0 (Some h.1))
strftime_fault_reads text f h = record { front = h.2; stop = h.3; whole = h.4 }

ill_fault_after : Directives → Option IllDirective → Fault → Fault
ill_fault_after front None f = f
ill_fault_after front (Some ill) f = raised (ill_fault ill) (length (directives_text front))

stops_ill : Option IllDirective → Type 0
stops_ill None = ⊥
stops_ill (Some ill) = Unit {0}

strftime_answered : (text : Text) (front : Directives) (stop : Option IllDirective)
    → ReadsStrftime text (strftime_reading front stop) → StrftimeIsAnswered text
strftime_answered text front None h = inl (
  directive_items front,
  (front, h.front, h.whole ∙ append-nil (directives_text front), refl),
)
strftime_answered text front (Some ill) h = inr (
  raised (ill_fault ill) (length (directives_text front)),
  (front, ill, h.front, h.stop, h.whole, refl),
)

pub strftime_one_answer_law : OneStrftimeAnswer
unfolding ill_fault_after stops_ill
strftime_one_answer_law text = (
  strftime_answered text _ _ (found_strftime (suc (length text)) text (omega arith)),
  record {
    one_list = λ a b h k. h.3 ∙ ap (λ r. directive_items r.front)
        (one_strftime_read text _ _ (strftime_spelled_reads text a h) (strftime_spelled_reads text b k)) ∙ sym k.3;
    one_fault = λ f g h k. h.5 ∙ ap (λ r. ill_fault_after r.front r.stop f)
        (one_strftime_read text _ _ (strftime_fault_reads text f h) (strftime_fault_reads text g k)) ∙ sym k.5;
    not_both = λ a f h k. subst (λ r. stops_ill r.stop)
        (one_strftime_read text _ _ (strftime_fault_reads text f k) (strftime_spelled_reads text a h)) tt;
  },
)

pub strftime_one_cut_law : OneStrftimeCut
strftime_one_cut_law a b h k e =
    ap (λ r. r.front) (one_strftime_read (directives_text a) (strftime_reading a None) (strftime_reading b None)
    (record { front = h; stop = tt; whole = sym (append-nil (directives_text a)) })
    (record { front = k; stop = tt; whole = e ∙ sym (append-nil (directives_text b)) }))

-- Joining.

abbrev with_plain : Text → Directives → Directives
with_plain bytes no_directives = plain bytes no_directives
with_plain bytes (plain more rest) = plain (bytes ++ more) rest
with_plain bytes (directive f b tree rest) = plain bytes (directive f b tree rest)

abbrev join_directives : Directives → Directives → Directives
join_directives no_directives ys = ys
join_directives (plain bytes rest) ys = with_plain bytes (join_directives rest ys)
join_directives (directive f b tree rest) ys = directive f b tree (join_directives rest ys)

with_plain-text : (bytes : Text) (ds : Directives)
    → directives_text (with_plain bytes ds) ≡ bytes ++ directives_text ds
with_plain-text bytes no_directives = refl
with_plain-text bytes (plain more rest) = append_assoc bytes more (directives_text rest)
with_plain-text bytes (directive f b tree rest) = refl

join_directives-text : (xs ys : Directives) → directives_text (join_directives xs ys) ≡ directives_text
    xs ++ directives_text ys
join_directives-text no_directives ys = refl
join_directives-text (plain bytes rest) ys = with_plain-text bytes (join_directives rest ys) ∙
    ap (λ x. bytes ++ x) (join_directives-text rest ys) ∙
    sym (append_assoc bytes (directives_text rest) (directives_text ys))
join_directives-text (directive f b tree rest) ys =
    ap (λ x. percent ∷ (flag_text f ++ b ∷ x)) (join_directives-text rest ys) ∙
    sym (directive_regrouped f b (directives_text rest) (directives_text ys))

with_plain-are : (bytes : Text) (ds : Directives) → OneOrMore is_plain bytes → AreDirectives ds
    → AreDirectives (with_plain bytes ds)
with_plain-are bytes no_directives h are = (h, tt, tt)
with_plain-are bytes (plain more rest) h are =
    (one-append is_plain bytes more h are.0, are.1, are.2)
with_plain-are bytes (directive f b tree rest) h are = (h, tt, are)

join_directives-are : (xs ys : Directives) → AreDirectives xs → AreDirectives ys → AreDirectives (join_directives xs ys)
join_directives-are no_directives ys h k = k
join_directives-are (plain bytes rest) ys h k =
    with_plain-are bytes (join_directives rest ys) h.0 (join_directives-are rest ys h.2 k)
join_directives-are (directive f b tree rest) ys h k = (h.0, h.1, h.2, join_directives-are rest ys h.3 k)

with_plain-joined : (bytes : Text) (ds : Directives)
    → joined (directive_items (with_plain bytes ds)) ≡ before_joined (literal bytes)
    (joined (directive_items ds))
with_plain-joined bytes no_directives = refl
with_plain-joined bytes (plain more rest) =
    literals_joined bytes more (joined (directive_items rest))
with_plain-joined bytes (directive f b tree rest) = refl

join_directives-joined : (xs ys : Directives) → joined (directive_items (join_directives xs ys)) ≡ joined
    (directive_items xs ++ directive_items ys)
join_directives-joined no_directives ys = refl
join_directives-joined (plain bytes rest) ys = with_plain-joined bytes (join_directives rest ys) ∙
    ap (before_joined (literal bytes)) (join_directives-joined rest ys)
join_directives-joined (directive f b tree rest) ys = ap (before_joined tree) (join_directives-joined rest ys)

pub strftime_joining_law : StrftimeJoining
strftime_joining_law s t a b h k = (
  directive_items (join_directives h.0 k.0),
  (join_directives h.0 k.0, join_directives-are h.0 k.0 h.1 k.1, cc (join_directives-text h.0 k.0), refl),
  join_directives-joined h.0 k.0
      ∙ cc,
)

pub strftime_shift_law : StrftimeShift
strftime_shift_law s t a f h k = (
  join_directives h.0 k.0,
  k.1,
  join_directives-are h.0 k.0 h.1 k.2,
  k.3,
  whole,
  ap (λ x. raised x (length s)) k.5 ∙
      sym (raised-raised (ill_fault k.1) (length s) (length (directives_text k.0))
      (length (directives_text (join_directives h.0 k.0))) lengths),
)
  where
    whole : s ++ t ≡ directives_text (join_directives h.0 k.0) ++ ill_text k.1
    whole =
        ap (λ x. x ++ t) h.2 ∙ ap (λ x. directives_text h.0 ++ x) k.4 ∙
        sym (append_assoc (directives_text h.0) (directives_text k.0) (ill_text k.1))
        ∙ ap (λ x. x ++ ill_text k.1) (sym (join_directives-text h.0 k.0))

    lengths : length (directives_text (join_directives h.0 k.0)) ≡ length s + length (directives_text k.0)
    lengths = omega (
      arith,
      ap length (join_directives-text h.0 k.0),
      length-append (directives_text h.0) (directives_text k.0),
      ap length h.2,
    )

-- The answer, as a function.

abbrev strftime_answer_from : Directives → Option IllDirective → Result (List Tree) Fault
strftime_answer_from front None = Ok (directive_items front)
strftime_answer_from front (Some ill) = Err (raised (ill_fault ill) (length (directives_text front)))

unfoldable pub strftime_answer_of : Text → Result (List Tree) Fault
unfolding read_strftime directive_start after_percent after_flag span item_of
strftime_answer_of text = let r = read_strftime (suc (length text)) text in strftime_answer_from r.front r.stop

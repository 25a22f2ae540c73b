-- The longest row at a position is the first of those that a byte selects.
use Rattle.std.proofs.Common.{ℕ, ◌≡◌, ◌==◌, cond, nat_lt, Bool, true, false, List, [], ◌∷◌, ◌++◌, length, drop, Option, Some, None, refl, sym, ap, ◌∙◌, subst, inl, inr, arith}
use Rattle.std.specs.Prelude.{◌&&◌, nat_le, not, ⊤}
use Rattle.std.proofs.lemmas.Bool.{cases_Bool, and_parts}
use Rattle.std.proofs.lemmas.Bool.Decides.{nat_tests}
use Rattle.timefd_lang_component.specs.Tree.{Text}
use Rattle.timefd_lang_dialect.specs.declared.dialect.Dialect.{Dialect}
use Rattle.timefd_lang_dialect.specs.declared.dialect.Dialect.TheVariants.{Python, C, Gnu, Chrono, Jiff, Ruby, Java, Go, Moment}
use Rattle.timefd_lang_dialect.specs.declared.dialect.Leading.{Leading}
use Rattle.timefd_lang_dialect.specs.declared.dialect.Leading.TheVariants.{Percent, Bare}
use Rattle.timefd_lang_dialect.specs.Dialects.{leading_of, first_byte, key_of, unknown_rows}
use Rattle.timefd_lang_dialect.specs.Groups.{Group, all_rows, rows_at, rows_found, first_standing}
use Rattle.timefd_lang_dialect.specs.Rows.{Entry, stands, better, longest_from, longest}
use Rattle.timefd_lang_dialect.specs.Tables.{groups_of, rows_of}
use Rattle.timefd_lang_dialect.specs.Python.{python_groups}
use Rattle.timefd_lang_dialect.specs.C.{c_groups}
use Rattle.timefd_lang_dialect.specs.CPadded.{c_padded}
use Rattle.timefd_lang_dialect.specs.CMarked.{c_marked}
use Rattle.timefd_lang_dialect.specs.Gnu.{gnu_groups}
use Rattle.timefd_lang_dialect.specs.GnuPadded.{gnu_padded}
use Rattle.timefd_lang_dialect.specs.GnuMarked.{gnu_marked}
use Rattle.timefd_lang_dialect.specs.Chrono.{chrono_groups}
use Rattle.timefd_lang_dialect.specs.Jiff.{jiff_groups}
use Rattle.timefd_lang_dialect.specs.JiffPadded.{jiff_padded}
use Rattle.timefd_lang_dialect.specs.JiffMarked.{jiff_marked}
use Rattle.timefd_lang_dialect.specs.Ruby.{ruby_groups}
use Rattle.timefd_lang_dialect.specs.RubyPadded.{ruby_padded}
use Rattle.timefd_lang_dialect.specs.RubyMarked.{ruby_marked}
use Rattle.timefd_lang_dialect.specs.Java.{java_groups}
use Rattle.timefd_lang_dialect.specs.JavaRefused.{java_refused}
use Rattle.timefd_lang_dialect.specs.Go.{go_groups}
use Rattle.timefd_lang_dialect.specs.Moment.{moment_groups}
use Rattle.timefd_lang_dialect.specs.MomentEscaped.{moment_escaped}
use Rattle.timefd_lang_dialect.proofs.ByteLemmas.{is_apart}
use Rattle.timefd_lang_dialect.proofs.RowLemmas.{all_pass, row_stands}

-- If no row is longer than one in front of it, then the first that is there is the longest.

abbrev no_longer : ℕ → List Entry → Bool
no_longer n [] = true
no_longer n (row ∷ rows) = nat_le (length row.text) n && no_longer n rows

abbrev descends : List Entry → Bool
descends [] = true
descends (row ∷ rows) = no_longer (length row.text) rows && descends rows

not_longer : (n m : ℕ) → nat_le m n ≡ true → nat_lt n m ≡ false
not_longer n m e = grind (arith, nat_tests)

not_better : (best row : Entry) (text : Text)
    → nat_le (length row.text) (length best.text) ≡ true → better (Some best) row text ≡ Some best
not_better best row text e = rw (not_longer (length best.text) (length row.text) e) (by (stands row text))
  where
    by : (t : Bool) → cond t (Some best) (Some best) ≡ Some best
    by true = refl
    by false = refl

kept : (best : Entry) (rows : List Entry) (text : Text)
    → no_longer (length best.text) rows ≡ true → longest_from (Some best) rows text ≡ Some best
kept best [] text e = refl
kept best (row ∷ rows) text e =
    let p = and_parts (nat_le (length row.text) (length best.text)) _ e in
    ap (λ o. longest_from o rows text) (not_better best row text p.0) ∙ kept best rows text p.1

first_is_longest : (rows : List Entry) (text : Text) → descends rows ≡ true
    → first_standing rows text ≡ longest rows text
first_is_longest [] text e = refl
first_is_longest (row ∷ rows) text e =
    let p = and_parts (no_longer (length row.text) rows) _ e in
    elim (cases_Bool (stands row text)) [
      | inl is ↦ rw is (sym (kept row rows text p.0))
      | inr not ↦ rw not (first_is_longest rows text p.1)
    ]

-- A row is only where the text has the row's byte.

first_kept : (k : ℕ) (text rest : Text) → first_byte text ≡ Some k → first_byte (text ++ rest) ≡ Some k
first_kept k [] rest e = cc
first_kept k (b ∷ text) rest e = e

key_kept : (leading : Leading) (k : ℕ) (text rest : Text) → key_of leading text ≡ Some k
    → key_of leading (text ++ rest) ≡ Some k
key_kept Percent k [] rest e = cc
key_kept Percent k (b ∷ text) rest e = by (b == 37) e
  where
    by : (t : Bool) → cond t (first_byte text) None ≡ Some k
        → cond t (first_byte (text ++ rest)) None ≡ Some k
    by true is = first_kept k text rest is
    by false is = cc
key_kept Bare k text rest e = first_kept k text rest e

stands_key : (leading : Leading) (k : ℕ) (row : Entry) (text : Text) → stands row text ≡ true
    → key_of leading row.text ≡ Some k → key_of leading text ≡ Some k
stands_key leading k row text is e =
    subst (λ t. key_of leading t ≡ Some k) (sym (row_stands row text is))
    (key_kept leading k row.text (drop (length row.text) text) e)

-- Where the text has another byte, no row of a group is there.

abbrev pub is_key : ℕ → Option ℕ → Bool
is_key k None = false
is_key k (Some b) = b == k

abbrev pub has_key : Leading → ℕ → Entry → Bool
has_key leading k row = is_key k (key_of leading row.text)

key_is : (k : ℕ) (key : Option ℕ) → is_key k key ≡ true → key ≡ Some k
key_is k None e = cc
key_is k (Some b) e = ap Some (same b k e)
  where
    same : (b k : ℕ) → (b == k) ≡ true → b ≡ k
    same b k e = grind (arith, nat_tests)

group_missed : (leading : Leading) (k : ℕ) (best : Option Entry) (rows : List Entry) (text : Text)
    → all_pass (has_key leading k) rows ≡ true → ¬ (key_of leading text ≡ Some k)
    → longest_from best rows text ≡ best
group_missed leading k best [] text e other = refl
group_missed leading k best (row ∷ rows) text e other =
    let p = and_parts (has_key leading k row) _ e in
    elim (cases_Bool (stands row text)) [
      | inl is ↦ absurd (other (stands_key leading k row text is (key_is k (key_of leading row.text) p.0)))
      | inr not ↦ rw not (group_missed leading k best rows text p.1 other)
    ]

longest_more : (best : Option Entry) (a b : List Entry) (text : Text)
    → longest_from best (a ++ b) text ≡ longest_from (longest_from best a text) b text
longest_more best [] b text = refl
longest_more best (row ∷ a) b text = longest_more (better best row text) a b text

-- each row has the byte that selects it, and no byte selects two groups
abbrev pub are_keyed : Leading → List Group → Bool
are_keyed leading [] = true
are_keyed leading (g ∷ gs) =
    all_pass (has_key leading g.key) g.rows && is_apart g.key gs && are_keyed leading gs

abbrev Misses : Option ℕ → List Group → Type 0
Misses key [] = ⊤
Misses key (g ∷ gs) = ¬ (key ≡ Some g.key) × Misses key gs

none_misses : (gs : List Group) → Misses None gs
none_misses [] = tt
none_misses (g ∷ gs) = (λ e. cc, none_misses gs)

other_key : (b k : ℕ) → not (b == k) ≡ true → ¬ (Some b ≡ Some k)
other_key b k e is = differ b k e cc
  where
    differ : (b k : ℕ) → not (b == k) ≡ true → ¬ (b ≡ k)
    differ b k e is = grind (arith, nat_tests)

apart_misses : (b : ℕ) (gs : List Group) → is_apart b gs ≡ true → Misses (Some b) gs
apart_misses b [] e = tt
apart_misses b (g ∷ gs) e =
    let p = and_parts (not (b == g.key)) _ e in
    (other_key b g.key p.0, apart_misses b gs p.1)

pub record Parts (leading : Leading) (g : Group) (gs : List Group) : Type 0 where
  pub rows : all_pass (has_key leading g.key) g.rows ≡ true
  pub apart : is_apart g.key gs ≡ true
  pub more : are_keyed leading gs ≡ true

pub parts : (leading : Leading) (g : Group) (gs : List Group) → are_keyed leading (g ∷ gs) ≡ true
    → Parts leading g gs
parts leading g gs e =
    let p = and_parts (all_pass (has_key leading g.key) g.rows && is_apart g.key gs) _ e in
    let q = and_parts (all_pass (has_key leading g.key) g.rows) _ p.0 in
    record { rows = q.0; apart = q.1; more = p.1 }

missed : (leading : Leading) (best : Option Entry) (gs : List Group) (text : Text)
    → are_keyed leading gs ≡ true → Misses (key_of leading text) gs
    → longest_from best (all_rows gs) text ≡ best
missed leading best [] text e other = refl
missed leading best (g ∷ gs) text e other =
    let p = parts leading g gs e in
    longest_more best g.rows (all_rows gs) text
    ∙ ap (λ o. longest_from o (all_rows gs) text)
    (group_missed leading g.key best g.rows text p.rows other.0)
    ∙ missed leading best gs text p.more other.1

same_byte : (b k : ℕ) → (b == k) ≡ true → k ≡ b
same_byte b k e = grind (arith, nat_tests)

other_byte : (b k : ℕ) → (b == k) ≡ false → ¬ (Some b ≡ Some k)
other_byte b k e is = differ b k e cc
  where
    differ : (b k : ℕ) → (b == k) ≡ false → ¬ (b ≡ k)
    differ b k e is = grind (arith, nat_tests)

at_byte : (leading : Leading) (b : ℕ) (best : Option Entry) (gs : List Group) (text : Text)
    → are_keyed leading gs ≡ true → key_of leading text ≡ Some b
    → longest_from best (all_rows gs) text ≡ longest_from best (rows_at b gs) text
at_byte leading b best [] text e key = refl
at_byte leading b best (g ∷ gs) text e key =
    let p = parts leading g gs e in
    longest_more best g.rows (all_rows gs) text ∙ elim (cases_Bool (b == g.key)) [
      | inl is ↦ rw is (missed leading (longest_from best g.rows text) gs text p.more
          (subst (λ o. Misses o gs) (ap Some (same_byte b g.key is) ∙ sym key)
          (apart_misses g.key gs p.apart)))
      | inr not ↦ rw not (ap (λ o. longest_from o (all_rows gs) text)
          (group_missed leading g.key best g.rows text p.rows
          (λ other. other_byte b g.key not (sym key ∙ other)))
          ∙ at_byte leading b best gs text p.more key)
    ]

by_key : (leading : Leading) (key : Option ℕ) (best : Option Entry) (gs : List Group) (text : Text)
    → are_keyed leading gs ≡ true → key_of leading text ≡ key
    → longest_from best (all_rows gs) text ≡ longest_from best (rows_found key gs) text
by_key leading None best gs text e is =
    missed leading best gs text e (subst (λ o. Misses o gs) (sym is) (none_misses gs))
by_key leading (Some b) best gs text e is = at_byte leading b best gs text e is

-- The rows of a group, and those that count where it has none.

abbrev all_descend : List Entry → List Group → Bool
all_descend others [] = descends others
all_descend others (g ∷ gs) = descends (g.rows ++ others) && all_descend others gs

at_descends : (b : ℕ) (others : List Entry) (gs : List Group) → all_descend others gs ≡ true
    → descends (rows_at b gs ++ others) ≡ true
at_descends b others [] e = e
at_descends b others (g ∷ gs) e =
    let p = and_parts (descends (g.rows ++ others)) _ e in
    by (b == g.key) p.0 (at_descends b others gs p.1)
  where
    by : (t : Bool) → descends (g.rows ++ others) ≡ true → descends (rows_at b gs ++ others) ≡ true
        → descends (cond t g.rows (rows_at b gs) ++ others) ≡ true
    by true one more = one
    by false one more = more

none_descends : (others : List Entry) (gs : List Group) → all_descend others gs ≡ true
    → descends others ≡ true
none_descends others [] e = e
none_descends others (g ∷ gs) e =
    none_descends others gs (and_parts (descends (g.rows ++ others)) _ e).1

found_descends : (key : Option ℕ) (others : List Entry) (gs : List Group)
    → all_descend others gs ≡ true → descends (rows_found key gs ++ others) ≡ true
found_descends None others gs e = none_descends others gs e
found_descends (Some b) others gs e = at_descends b others gs e

-- the first of some rows, or else the first of others
abbrev or_other : Option Entry → Option Entry → Option Entry
or_other None other = other
or_other (Some row) other = Some row

first_of_both : (a b : List Entry) (text : Text)
    → or_other (first_standing a text) (first_standing b text) ≡ first_standing (a ++ b) text
first_of_both [] b text = refl
first_of_both (row ∷ a) b text = elim (cases_Bool (stands row text)) [
  | inl is ↦ rw is refl
  | inr not ↦ rw not (first_of_both a b text)
]

-- Each table has the form that the search needs.

pub all_keyed : (dialect : Dialect) → are_keyed (leading_of dialect) (groups_of dialect) ≡ true
unfolding python_groups c_groups c_padded c_marked gnu_groups gnu_padded gnu_marked chrono_groups
    jiff_groups jiff_padded jiff_marked ruby_groups ruby_padded ruby_marked java_groups java_refused
    go_groups moment_groups moment_escaped
all_keyed Python = refl
all_keyed C = refl
all_keyed Gnu = refl
all_keyed Chrono = refl
all_keyed Jiff = refl
all_keyed Ruby = refl
all_keyed Java = refl
all_keyed Go = refl
all_keyed Moment = refl

tables_descend : (dialect : Dialect)
    → all_descend (unknown_rows (leading_of dialect)) (groups_of dialect) ≡ true
unfolding python_groups c_groups c_padded c_marked gnu_groups gnu_padded gnu_marked chrono_groups
    jiff_groups jiff_padded jiff_marked ruby_groups ruby_padded ruby_marked java_groups java_refused
    go_groups moment_groups moment_escaped
tables_descend Python = refl
tables_descend C = refl
tables_descend Gnu = refl
tables_descend Chrono = refl
tables_descend Jiff = refl
tables_descend Ruby = refl
tables_descend Java = refl
tables_descend Go = refl
tables_descend Moment = refl

pub found_is_longest : (dialect : Dialect) (text : Text) (one other : Option Entry)
    → one ≡ first_standing (rows_found (key_of (leading_of dialect) text) (groups_of dialect)) text
    → other ≡ first_standing (unknown_rows (leading_of dialect)) text
    → or_other one other ≡ longest (rows_of dialect) text
found_is_longest dialect text one other is_one is_other =
    let key = key_of (leading_of dialect) text in
    let gs = groups_of dialect in
    let others = unknown_rows (leading_of dialect) in
    ap (λ o. or_other o other) is_one
    ∙ ap (or_other (first_standing (rows_found key gs) text)) is_other
    ∙ first_of_both (rows_found key gs) others text
    ∙ first_is_longest (rows_found key gs ++ others) text
    (found_descends key others gs (tables_descend dialect))
    ∙ longest_more None (rows_found key gs) others text
    ∙ ap (λ o. longest_from o others text)
    (sym (by_key (leading_of dialect) key None gs text (all_keyed dialect) refl))
    ∙ sym (longest_more None (all_rows gs) others text)

-- What holds for the rows of each table, and so for the longest one at a position.
use Rattle.std.proofs.Common.{ℕ, ◌≡◌, ◌<◌, cond, nat_lt, Bool, true, false, List, [], ◌∷◌, ◌++◌, length, drop, Option, Some, None, refl, sym, subst, inl, inr, arith}
use Rattle.std.specs.Borrow.{Bor}
use Rattle.std.specs.Prelude.{◌&&◌, IfSome}
use Rattle.std.proofs.lemmas.Bool.{cases_Bool, and_parts}
use Rattle.std.proofs.lemmas.Bool.Decides.{nat_tests, Decides-eqb}
use Rattle.std.proofs.lemmas.Slice.Eq.{starts_is}
use Rattle.timefd_lang_component.specs.Tree.{Text}
use Rattle.timefd_lang_dialect.specs.declared.dialect.Dialect.{Dialect}
use Rattle.timefd_lang_dialect.specs.declared.dialect.Dialect.TheVariants.{Python, C, Gnu, Chrono, Jiff, Ruby, Java, Go, Moment}
use Rattle.timefd_lang_dialect.specs.declared.row.Row.{Row}
use Rattle.timefd_lang_dialect.specs.Rows.{Entry, entry_of, found_entry, stands, longer, better, longest_from, longest}
use Rattle.timefd_lang_dialect.specs.Tables.{rows_of}
use Rattle.timefd_lang_dialect.specs.Python.{python_groups}
use Rattle.timefd_lang_dialect.specs.C.{c_groups}
use Rattle.timefd_lang_dialect.specs.CPadded.{c_padded}
use Rattle.timefd_lang_dialect.specs.CMarked.{c_marked}
use Rattle.timefd_lang_dialect.specs.Gnu.{gnu_groups}
use Rattle.timefd_lang_dialect.specs.GnuPadded.{gnu_padded}
use Rattle.timefd_lang_dialect.specs.GnuMarked.{gnu_marked}
use Rattle.timefd_lang_dialect.specs.Chrono.{chrono_groups}
use Rattle.timefd_lang_dialect.specs.Jiff.{jiff_groups}
use Rattle.timefd_lang_dialect.specs.JiffPadded.{jiff_padded}
use Rattle.timefd_lang_dialect.specs.JiffMarked.{jiff_marked}
use Rattle.timefd_lang_dialect.specs.Ruby.{ruby_groups}
use Rattle.timefd_lang_dialect.specs.RubyPadded.{ruby_padded}
use Rattle.timefd_lang_dialect.specs.RubyMarked.{ruby_marked}
use Rattle.timefd_lang_dialect.specs.Java.{java_groups}
use Rattle.timefd_lang_dialect.specs.JavaRefused.{java_refused}
use Rattle.timefd_lang_dialect.specs.Go.{go_groups}
use Rattle.timefd_lang_dialect.specs.Moment.{moment_groups}
use Rattle.timefd_lang_dialect.specs.MomentEscaped.{moment_escaped}

-- the text begins with the text of a row that is there
pub row_stands : (row : Entry) (text : Text) → stands row text ≡ true
    → text ≡ row.text ++ drop (length row.text) text
row_stands row text e =
    (starts_is Decides-eqb text row.text _ refl).0 (and_parts _ _ e).0

-- The longest row is one of the rows, and is there.

abbrev pub all_pass : (Entry → Bool) → List Entry → Bool
all_pass test [] = true
all_pass test (row ∷ rows) = test row && all_pass test rows

-- the row passes the test, and is there
abbrev pub IsFit : (Entry → Bool) → Text → Entry → Type 0
IsFit test text row = (test row ≡ true) × (stands row text ≡ true)

longer_fits : (test : Entry → Bool) (text : Text) (best : Option Entry) (row : Entry)
    → IfSome best (IsFit test text) → IsFit test text row → IsFit test text (longer best row)
longer_fits test text None row so_far fits = fits
longer_fits test text (Some best) row so_far fits = by (nat_lt (length best.text) (length row.text))
  where
    by : (t : Bool) → IsFit test text (cond t row best)
    by true = fits
    by false = so_far

better_fits : (test : Entry → Bool) (text : Text) (best : Option Entry) (row : Entry)
    → IfSome best (IsFit test text) → test row ≡ true
    → IfSome (better best row text) (IsFit test text)
better_fits test text best row so_far passes = elim (cases_Bool (stands row text)) [
  | inl is ↦ rw is (longer_fits test text best row so_far (passes, is))
  | inr not ↦ rw not so_far
]

longest_from_fits : (test : Entry → Bool) (text : Text) (best : Option Entry) (rows : List Entry)
    → IfSome best (IsFit test text) → all_pass test rows ≡ true
    → IfSome (longest_from best rows text) (IsFit test text)
longest_from_fits test text best [] so_far pass = so_far
longest_from_fits test text best (row ∷ rows) so_far pass =
    let p = and_parts (test row) (all_pass test rows) pass in
    longest_from_fits test text (better best row text) rows
    (better_fits test text best row so_far p.0) p.1

pub longest_fits : (test : Entry → Bool) (text : Text) (rows : List Entry)
    → all_pass test rows ≡ true → IfSome (longest rows text) (IsFit test text)
longest_fits test text rows pass = longest_from_fits test text None rows tt pass

-- Each row has bytes.

abbrev pub has_bytes : Entry → Bool
has_bytes row = nat_lt 0 (length row.text)

pub all_have_bytes : (dialect : Dialect) → all_pass has_bytes (rows_of dialect) ≡ true
unfolding python_groups c_groups c_padded c_marked gnu_groups gnu_padded gnu_marked chrono_groups
    jiff_groups jiff_padded jiff_marked ruby_groups ruby_padded ruby_marked java_groups java_refused
    go_groups moment_groups moment_escaped
all_have_bytes Python = refl
all_have_bytes C = refl
all_have_bytes Gnu = refl
all_have_bytes Chrono = refl
all_have_bytes Jiff = refl
all_have_bytes Ruby = refl
all_have_bytes Java = refl
all_have_bytes Go = refl
all_have_bytes Moment = refl

-- the row that was found has bytes, and is there
found_row : (dialect : Dialect) (row : Row) (text : Text)
    → Some (entry_of row) ≡ longest (rows_of dialect) text
    → (0 < length row.text.now) × (stands (entry_of row) text ≡ true)
found_row dialect row text e =
    let fits = subst (λ o. IfSome o (IsFit has_bytes text)) (sym e)
    (longest_fits has_bytes text (rows_of dialect) (all_have_bytes dialect)) in
    (some (length row.text.now) fits.0, fits.1)
  where
    some : (n : ℕ) → nat_lt 0 n ≡ true → 0 < n
    some n e = grind (arith, nat_tests)

pub found_bytes : (dialect : Dialect) (found : Option (Bor Row)) (text : Text)
    → found_entry found ≡ longest (rows_of dialect) text
    → IfSome found (λ row. 0 < length row.now.text.now)
found_bytes dialect None text e = tt
found_bytes dialect (Some row) text e = (found_row dialect row.now text e).0

pub found_stands : (dialect : Dialect) (found : Option (Bor Row)) (text : Text)
    → found_entry found ≡ longest (rows_of dialect) text
    → IfSome found (λ row. stands (entry_of row.now) text ≡ true)
found_stands dialect None text e = tt
found_stands dialect (Some row) text e = (found_row dialect row.now text e).1

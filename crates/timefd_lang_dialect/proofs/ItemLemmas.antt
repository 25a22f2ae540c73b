-- What version 3 spells with the text of each piece, and with the text of all pieces.
use Rattle.std.proofs.Common.{ℕ, ◌≡◌, ◌==◌, cond, Bool, true, false, List, [], ◌∷◌, ◌++◌, length, take, drop, Option, Some, None, Result, Ok, Err, refl, sym, ap, ◌∙◌, subst, arith}
use Rattle.std.proofs.lemmas.Bool.Decides.{nat_tests}
use Rattle.std.specs.Prelude.{IfSome, MatchResult, ⊤}
use Rattle.timefd_lang_component.specs.Tree.{Text, Tree, joined, before_joined}
use Rattle.timefd_lang_fault.specs.Faults.{Fault}
use Rattle.timefd_lang_dialect.specs.declared.dialect.Dialect.{Dialect}
use Rattle.timefd_lang_dialect.specs.declared.dialect.Quoting.{Quoting}
use Rattle.timefd_lang_dialect.specs.declared.dialect.Quoting.TheVariants.{Unquoted, Apostrophes, Brackets}
use Rattle.timefd_lang_dialect.specs.declared.limits.Limits.{Limits}
use Rattle.timefd_lang_dialect.specs.Items.{SpellsItemsOf, IsSpelledBy}
use Rattle.timefd_lang_dialect.specs.Quotes.{escaped, apostrophe, quotation, or_apostrophe, closing, char_len}
use Rattle.timefd_lang_dialect.specs.Reading.{Piece, Front, ended, piece, refused_for, front_meant, front_row, front_quotation, front_closing, front_quote, front_of, Leads, text_of}
use Rattle.timefd_lang_dialect.specs.Rows.{Entry, Meaning, written, refused, longest}
use Rattle.timefd_lang_dialect.specs.Dialects.{quoting_of}
use Rattle.timefd_lang_dialect.specs.Tables.{rows_of}
use Rattle.timefd_lang_dialect.proofs.ReadingLemmas.{HasRead}
use Rattle.timefd_lang_dialect.proofs.RowLemmas.{IsFit, longest_fits}
use Rattle.timefd_lang_dialect.proofs.TableLemmas.{is_read, meaning_reads, reads, all_read}
use Rattle.timefd_language.specs.declared.description_version.DescriptionVersion.TheVariants.{Three}
use Rattle.timefd_language.specs.Broken.{FaultOf}
use Rattle.timefd_language.specs.Bytes.{left, backslash, is_special}
use Rattle.timefd_language.specs.Grammar.{Spells, nesting_limit, no_pieces, run, escape}
use Rattle.timefd_language.proofs.Join.{joining_law}
use Rattle.timefd_language.proofs.LawLemmas.{answer_is}
use Rattle.timefd_language.proofs.Reader.{answer_of}

-- in version 3 the text spells some items
abbrev IsSpelled : Text → Type 0
IsSpelled text = (list : List Tree) × Spells Three nesting_limit 0 text list

-- Rows.

from_answer : (text : Text) (r : Result (List Tree) Fault)
    → MatchResult r (λ list. Spells Three nesting_limit 0 text list)
    (λ f. FaultOf Three nesting_limit text f)
    → is_read r ≡ true → IsSpelled text
from_answer text (Ok list) spelled e = (list, spelled)
from_answer text (Err f) spelled e = absurd cc

read_text : (text : Text) → is_read (answer_of Three nesting_limit text) ≡ true → IsSpelled text
read_text text e = from_answer text _ (answer_is Three nesting_limit text) e

-- Literals.

nothing_spelled : IsSpelled []
nothing_spelled = ([], (no_pieces, tt, refl, refl))

byte_spelled : (b : ℕ) → IsSpelled (escaped (b ∷ []))
byte_spelled b = by (is_special b) refl
  where
    by : (t : Bool) → is_special b ≡ t → IsSpelled (cond t (backslash ∷ b ∷ []) (b ∷ []))
    by true e = (_, (escape backslash b no_pieces, ((refl, e), tt), refl, refl))
    by false e = (_, (run (b ∷ []) no_pieces, (rw e refl, tt, tt), refl, refl))

one_byte : (b : ℕ) (bytes : Text) → escaped (b ∷ []) ++ escaped bytes ≡ escaped (b ∷ bytes)
one_byte b bytes = by (is_special b)
  where
    by : (t : Bool) → cond t (backslash ∷ b ∷ []) (b ∷ []) ++ escaped bytes
        ≡ cond t (backslash ∷ b ∷ escaped bytes) (b ∷ escaped bytes)
    by true = refl
    by false = refl

literal_spelled : (bytes : Text) → IsSpelled (escaped bytes)
literal_spelled [] = nothing_spelled
literal_spelled (b ∷ bytes) =
    let one = byte_spelled b in
    let more = literal_spelled bytes in
    let both = joining_law Three nesting_limit _ _ one.0 more.0 one.1 more.1 in
    subst IsSpelled (one_byte b bytes) (both.0, both.1)

-- What is at the front.

abbrev IsGood : Front → Type 0
IsGood ended = ⊤
IsGood (piece p rest) = IsSpelled p.text
IsGood (refused_for reason) = ⊤

good_meaning : (meaning : Meaning) (rest : Text) → meaning_reads meaning ≡ true
    → IsGood (front_meant meaning rest)
good_meaning (written text range) rest e = read_text text e
good_meaning (refused reason) rest e = tt

good_row : (found : Option Entry) (text : Text) → IfSome found (IsFit reads text)
    → IsGood (front_row found text)
good_row None text fits = literal_spelled (take (char_len text) text)
good_row (Some row) text fits = good_meaning row.meaning (drop (length row.text) text) fits.0

good_quotation : (found : Option (Text × Text)) → IsGood (front_quotation found)
good_quotation None = tt
good_quotation (Some x) = literal_spelled (or_apostrophe x.0)

good_closing : (found : Option ℕ) (rest : Text) (other : Front) → IsGood other
    → IsGood (front_closing found rest other)
good_closing None rest other good = good
good_closing (Some index) rest other good = literal_spelled (take index rest)

either : (t : Bool) (one other : Front) → IsGood one → IsGood other → IsGood (cond t one other)
either true one other a b = a
either false one other a b = b

good_quote : (quoting : Quoting) (b : ℕ) (rest : Text) (other : Front) → IsGood other
    → IsGood (front_quote quoting b rest other)
good_quote Unquoted b rest other good = good
good_quote Apostrophes b rest other good =
    either (b == apostrophe) (front_quotation (quotation rest)) other
    (good_quotation (quotation rest)) good
good_quote Brackets b rest other good =
    either (b == left) (front_closing (closing rest) rest other) other
    (good_closing (closing rest) rest other good) good

good_front : (dialect : Dialect) (text : Text) → IsGood (front_of dialect text)
good_front dialect [] = tt
good_front dialect (b ∷ rest) =
    good_quote (quoting_of dialect) b rest _
    (good_row (longest (rows_of dialect) (b ∷ rest)) (b ∷ rest)
    (longest_fits reads (b ∷ rest) (rows_of dialect) (all_read dialect)))

-- All pieces.

joined_front : (a b c : List Tree) → joined b ≡ joined c → joined (a ++ b) ≡ joined (a ++ c)
joined_front [] b c e = e
joined_front (t ∷ a) b c e = ap (before_joined t) (joined_front a b c e)

read_spelled : (dialect : Dialect) (ps : List Piece) (text rest : Text)
    → Leads dialect text ps rest → SpellsItemsOf ps (text_of ps)
read_spelled dialect [] text rest leads = ([], [], refl, (no_pieces, tt, refl, refl), refl)
read_spelled dialect (p ∷ ps) text rest leads =
    let one = subst IsGood leads.1 (good_front dialect text) in
    let more = read_spelled dialect ps leads.0 rest leads.2 in
    let both = joining_law Three nesting_limit p.text (text_of ps) one.0 more.1 one.1 more.3 in (
      one.0 ++ more.0,
      both.0,
      (one.0, more.0, one.1, more.2, refl),
      both.1,
      both.2 ∙ joined_front one.0 more.1 more.0 more.4,
    )

-- what was read to the end
pub whole_spelled : (dialect : Dialect) (format rest text : Text) (limits : Limits)
    → HasRead dialect format rest text limits → (length rest == 0) ≡ true
    → IsSpelledBy dialect format text
whole_spelled dialect format [] text limits read e = (
  read.pieces,
  read.leads,
  subst (SpellsItemsOf read.pieces) (sym read.written)
      (read_spelled dialect read.pieces format [] read.leads),
)
whole_spelled dialect format (b ∷ rest) text limits read e =
    absurd (omega (arith, none (length (b ∷ rest)) e))
  where
    none : (n : ℕ) → (n == 0) ≡ true → n ≡ 0
    none n e = grind (arith, nat_tests)

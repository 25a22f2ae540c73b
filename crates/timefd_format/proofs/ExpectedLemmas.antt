-- Reading a front of the parts, and the part at an index.
use Rattle.std.proofs.Common.{ℕ, suc, ◌≡◌, ◌∙◌, ◌-◌, ◌<◌, ◌≤◌, Bool, true, false, List, length, map, take, get_or, Result, Ok, Err, sym, ap, subst, arith}
use Rattle.std.proofs.lemmas.List.{get_or-map, take-map}
use Rattle.timefd_lang_component.specs.Tree.{Text, Tree, compound, literal, no_trees, trees}
use Rattle.timefd_parse.specs.declared.parsing.BorrowedOutput.{BorrowedOutput}
use Rattle.timefd_date_moment.specs.declared.fields.fault.ReadError.{ReadError}
use Rattle.timefd_date_moment.specs.declared.fields.fields.Fields.{Fields}
use Rattle.timefd_date_moment.specs.Fields.Reads.{Fills}
use Rattle.timefd_format.specs.Expected.{IsExpected, IsExpectedBy, IsLiteral, IsStop, is_stop, stops}
use Rattle.timefd_format.specs.ReadBack.{tree_of}

pub stopped : (x : Result Fields ReadError) (f : Fields) (r : Result (Unit {0}) ReadError) → Fills x f r
    → is_stop r ≡ is_stop x
stopped x f (Ok u) fills = sym (ap (λ (y : Result Fields ReadError). is_stop y) fills)
stopped x f (Err e) fills = sym (ap (λ (y : Result Fields ReadError). is_stop y) fills)

-- the first parts, taken before or after they become trees
pub taken : {A : Type 0} (tree : A → Tree) (xs : List A) (n : ℕ) (word : Text) (b : Bool)
    → b ≡ stops (map tree (take n xs)) word → b ≡ stops (take n (map tree xs)) word
taken tree xs n word b is = is ∙ ap (λ ts. stops ts word) (sym (take-map tree n xs))

-- and the part at an index
pub at_position : {A : Type 0} (tree : A → Tree) (xs : List A) (n : ℕ) (d : A) (bytes : Text) → n < length xs
    → tree (get_or xs n d) ≡ literal bytes → IsLiteral (map tree xs) n bytes
at_position tree xs n d bytes some is = get_or-map tree xs n d (compound no_trees) some ∙ is

pub stop_is : (ts : List Tree) (word : Text) (read unread : ℕ) → stops (take read ts) word ≡ false
    → stops (take unread ts) word ≡ true → read < unread → unread ≤ length ts → unread - read < 2
    → IsStop ts word read
stop_is ts word read unread not_yet stopped before within next =
    let one : unread ≡ suc read = omega (arith, before, next) in
    (omega (arith, before, within), not_yet, subst (λ n. stops (take n ts) word ≡ true) one stopped)

pub expected_of : (o : BorrowedOutput) (ts : List Tree) (word bytes : Text)
    → tree_of o ≡ compound (trees ts) → IsExpected ts word bytes → IsExpectedBy o word bytes
expected_of o ts word bytes is expected = (ts, is, expected)

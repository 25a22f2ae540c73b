-- The lines so far, and those of the rest.
use Rattle.std.proofs.Common.{◌≡◌, ◌≢◌, ◌<◌, List, [], ◌∷◌, ◌++◌, length, take, refl, sym, ap, ◌∙◌, append_assoc, append-nil, arith}
use Rattle.std.specs.Prelude.{Option}
use Rattle.timefd_lint_files.specs.declared.pattern.Pattern.{Pattern}
use Rattle.timefd_lint_files.specs.Matching.{Text}
use Rattle.timefd_lint_files.specs.Patterns.{IsRead}
use Rattle.timefd_lint_files.specs.IgnoreFiles.{AreOfLines, AreRead, all_listed, after_line, line_len, listed}

-- Whatever the rest gives, the lines so far and it are the whole text.
pub record GoesOn (text : Text) (patterns : List Pattern) (rest : Text) : Type 0 where
  pub found : List (Option Pattern)
  pub are : patterns ≡ all_listed found
  pub on : (more : List (Option Pattern)) → AreOfLines rest more → AreOfLines text (found ++ more)

pub at_first : (text : Text) → GoesOn text [] text
at_first text = record { found = []; are = refl; on = λ more are. are }

listed_more : (found : List (Option Pattern)) (one : Option Pattern)
    → all_listed (found ++ one ∷ []) ≡ all_listed found ++ listed one
listed_more [] one = append-nil (listed one)
listed_more (first ∷ found) one =
    ap (λ (ps : List Pattern). listed first ++ ps) (listed_more found one) ∙
    sym (append_assoc (listed first) (all_listed found) (listed one))

pub one_more : (text rest after : Text) (patterns more : List Pattern) (one : Option Pattern)
    → GoesOn text patterns rest → 0 < length rest → IsRead (take (line_len rest) rest) one
    → more ≡ patterns ++ listed one → after ≡ after_line (line_len rest) rest → GoesOn text more after
one_more text rest after patterns more one so_far some read pushed cut = record {
  found = so_far.found ++ one ∷ [];
  are = pushed ∙ ap (λ (ps : List Pattern). ps ++ listed one) so_far.are ∙ sym (listed_more so_far.found one);
  on = λ rests are. rw append_assoc (so_far.on (one ∷ rests) (not_empty rest some, read, rw (sym cut) are));
}
  where
    not_empty : (rest : Text) → 0 < length rest → rest ≢ []
    not_empty [] some e = absurd (omega arith)
    not_empty (b ∷ bytes) some e = absurd cc

pub at_last : (text rest : Text) (patterns : List Pattern) → GoesOn text patterns rest → length rest ≡ 0
    → AreRead text patterns
at_last text rest patterns so_far none =
    (so_far.found, rw append-nil at (so_far.on [] (empty rest none)), so_far.are)
  where
    empty : (rest : Text) → length rest ≡ 0 → rest ≡ []
    empty [] e = refl
    empty (b ∷ bytes) e = absurd (omega arith)

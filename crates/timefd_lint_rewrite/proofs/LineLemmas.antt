-- Lines that are read from the start of some bytes, one after another.
use Rattle.std.proofs.Common.{◌≡◌, ◌≢◌, true, false, List, [], ◌∷◌, ◌++◌, Option, Some, None, refl, sym, ap, subst, ◌∙◌, arith, ◌<◌, length}
use Rattle.std.specs.Prelude.{IfSome}
use Rattle.std.specs.Io.KnownBytes.{IsAtEnd}
use Rattle.std.specs.Io.BufRead.{take_through, drop_through, DropsThrough}
use Rattle.timefd_parse.specs.Tree.{Text}
use Rattle.timefd_lint_rewrite.specs.Lines.{AreLines, AreLinesUpTo, AreLinesOf, IsNextLine}

lines_end : (bytes rest : Text) (line : Text) → line ≢ [] → line ≡ take_through 10 rest
    → (lines : List Text) → AreLines bytes lines rest
    → AreLines bytes (lines ++ line ∷ []) (drop_through 10 rest)
lines_end bytes rest line some is [] same =
    (some, is ∙ ap (λ r. take_through 10 r) (sym same), ap (λ r. drop_through 10 r) same)
lines_end bytes rest line some is (l ∷ lines) so_far =
    (so_far.0, so_far.1, lines_end (drop_through 10 bytes) rest line some is lines so_far.2)

-- One more line.
pub up_to_more : (bytes rest : Option Text) (next : Option Text) (line : Text) (lines : List Text)
    → IsNextLine rest line next → AreLinesUpTo bytes lines rest
    → AreLinesUpTo bytes (lines ++ line ∷ []) next
up_to_more None rest next line lines more so_far = tt
up_to_more (Some bytes) None next line lines more so_far = absurd so_far
up_to_more (Some bytes) (Some rest) next line lines more so_far =
    subst (λ n. AreLinesUpTo (Some bytes) (lines ++ line ∷ []) n) (sym more.2)
    (lines_end bytes rest line more.0 more.1 lines so_far)

-- At the end of the bytes these are all lines.
pub all_lines : (bytes rest : Option Text) (lines : List Text) → AreLinesUpTo bytes lines rest
    → IsAtEnd rest → AreLinesOf bytes lines false
all_lines None rest lines so_far end = tt
all_lines (Some bytes) None lines so_far end = absurd so_far
all_lines (Some bytes) (Some rest) lines so_far end = subst (λ r. AreLines bytes lines r) end so_far

pub front_lines : (bytes rest : Option Text) (lines : List Text) → AreLinesUpTo bytes lines rest
    → AreLinesOf bytes lines true
front_lines None rest lines so_far = tt
front_lines (Some bytes) None lines so_far = absurd so_far
front_lines (Some bytes) (Some rest) lines so_far = (rest, so_far)

-- The next line of a reader.
pub next_line : (bytes rest : Option Text) (old line : Text)
    → IfSome bytes (λ xs. line ≡ old ++ take_through 10 xs) → old ≡ []
    → DropsThrough bytes rest 10 → 0 < length line → IsNextLine bytes line rest
next_line None rest old line is none left some = tt
next_line (Some xs) rest old line is none left some = (
  λ empty. absurd (omega (arith, some, ap length empty)),
  is
      ∙ ap (λ o. o ++ take_through 10 xs) none,
  left,
)

pub no_line : (bytes : Option Text) → AreLinesUpTo bytes [] bytes
no_line None = tt
no_line (Some bytes) = refl

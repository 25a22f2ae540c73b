-- Reading to the end of some bytes.
use Rattle.std.proofs.Common.{ℕ, ◌≡◌, ◌<◌, ◌+◌, ◌++◌, [], length, take, drop, Option, Some, None, IfSome, refl, sym, ap, subst, ◌∙◌, arith, length-append}
use Rattle.std.proofs.Math.Seq.{take-length}
use Rattle.std.proofs.lemmas.List.{take-append-drop}
use Rattle.std.specs.Io.{StartsWith}
use Rattle.std.specs.Io.BufRead.{DropsThrough, drop_through, take_through}
use Rattle.std.specs.Io.KnownBytes.{IsAtEnd}
use Rattle.timefd_lang_component.specs.Tree.{Text}
use Rattle.timefd_lint_rewrite.specs.Lines.{IsNextLine}
use Rattle.timefd_format.specs.declared.lines.LineRead.{LineRead}
use Rattle.timefd_format.specs.declared.lines.LineRead.TheVariants as reads
use Rattle.timefd_format.specs.Written.{IsRead, IsReadMore}

-- A line that is appended to no bytes.
pub whole_line : (old new : Option Text) (bytes longer : Text) (r : LineRead) → bytes ≡ []
    → IsReadMore old new bytes longer r → IsRead old new longer r
whole_line old new bytes longer reads.Line none more =
    subst (λ l. IsNextLine old l new)
    (sym (more.1 ∙ ap (λ b. b ++ more.0) none)) more.2
whole_line old new bytes longer reads.End none more = more.0
whole_line old new bytes longer reads.Failed none more = tt

more_of : (bytes longer : Text) → StartsWith longer bytes
    → longer ≡ bytes ++ drop (length bytes) longer
more_of bytes longer starts =
    sym (take-append-drop (length bytes) longer) ∙ ap (λ b. b ++ drop (length bytes) longer) starts

-- One more line.
pub one_line : (old new : Option Text) (bytes longer : Text)
    → IfSome old (λ xs. longer ≡ bytes ++ take_through 10 xs) → DropsThrough old new 10
    → StartsWith longer bytes → length bytes < length longer
    → IsReadMore old new bytes longer reads.Line
one_line None new bytes longer is left starts some =
    (drop (length bytes) longer, more_of bytes longer starts, tt)
one_line (Some xs) new bytes longer is left starts some = (
  take_through 10 xs,
  is,
  (
    λ empty. absurd (omega (arith, some, ap length is, length-append bytes (take_through 10 xs), ap length empty)),
    refl,
    left,
  ),
)

none_more : (bytes longer : Text) → StartsWith longer bytes → length longer ≡ length bytes
    → longer ≡ bytes
none_more bytes longer starts len =
    sym (take-length longer) ∙ ap (λ n. take n longer) len ∙ starts

nothing_through : (old new : Option Text) → IsAtEnd old → DropsThrough old new 10
    → IfSome old (λ xs. new ≡ Some [])
nothing_through None new end left = tt
nothing_through (Some xs) new end left = left ∙ ap (λ x. Some (drop_through 10 x)) end

-- No line is left.
pub no_line : (old new : Option Text) (bytes longer : Text) → IsAtEnd old → DropsThrough old new 10
    → StartsWith longer bytes → length longer ≡ length bytes + 0
    → IsReadMore old new bytes longer reads.End
no_line old new bytes longer end left starts len =
    (end, none_more bytes longer starts (omega (arith, len)), nothing_through old new end left)

-- A finding is written as something, in each form.
use Rattle.std.proofs.Common.{ℕ, ◌≡◌, ◌≢◌, Bool, [], ◌∷◌, ◌++◌, Option, Some, None, codes, refl, sym, ap, ◌∙◌, arith, length}
use Rattle.timefd_lang_component.specs.Tree.{Text}
use Rattle.timefd_lint_drawing.specs.declared.form.Format.{Format}
use Rattle.timefd_lint_drawing.specs.declared.form.Format.TheVariants.{Human, Json, Short, Github, Sarif}
use Rattle.timefd_lint_drawing.specs.declared.draw.Style.{Style}
use Rattle.timefd_lint_drawing.specs.declared.finding.FindingKind.{FindingKind}
use Rattle.timefd_lint_drawing.specs.declared.finding.FindingKind.TheVariants.{Fault, Further, Labelled, Aside}
use Rattle.timefd_lint_drawing.specs.declared.position.Position.{Position}
use Rattle.timefd_lint_drawing.specs.declared.severity.FindingSeverity.{FindingSeverity}
use Rattle.timefd_lint_drawing.specs.declared.severity.FindingSeverity.TheVariants.{Error, Warning, Note}
use Rattle.timefd_lint_drawing.specs.Findings.{Located, Said, described}
use Rattle.timefd_lint_drawing.specs.Forms.{drawn_at, drawn_in}
use Rattle.timefd_lint_drawing.specs.Github.{annotation}
use Rattle.timefd_lint_drawing.specs.Human.{below, drawing, head_by, is_painted}
use Rattle.timefd_lint_drawing.specs.Lines.{begin, head}
use Rattle.timefd_lint_drawing.specs.Sarif.{sarif_in}
use Rattle.timefd_lint_drawing.specs.Severities.{paint, word}
use Rattle.timefd_lint_drawing.specs.Shown.{safe}

starts : (x : ℕ) (xs : Text) → x ∷ xs ≢ []
starts x xs e = omega (arith, ap length e)

before_more : (xs ys : Text) → xs ≢ [] → xs ++ ys ≢ []
before_more [] ys some = λ e. some refl
before_more (x ∷ xs) ys some = starts x (xs ++ ys)

after_any : (xs ys : Text) → ys ≢ [] → xs ++ ys ≢ []
after_any [] ys some = some
after_any (x ∷ xs) ys some = starts x (xs ++ ys)

head_full : (colored : Bool) (severity : FindingSeverity) (code sentence : Text) → head colored severity code sentence ≢ []
head_full colored Error code sentence = after_any (begin colored (paint Error)) _ (starts 101 _)
head_full colored Warning code sentence = after_any (begin colored (paint Warning)) _ (starts 119 _)
head_full colored Note code sentence = after_any (begin colored (paint Note)) _ (starts 110 _)

word_full : (severity : FindingSeverity) (rest : Text) → word severity ++ rest ≢ []
word_full Error rest = starts 101 _
word_full Warning rest = starts 119 _
word_full Note rest = starts 110 _

first_full : (kind : FindingKind) (colored : Bool) (s : Said) → head_by kind colored s ≢ []
first_full Fault colored s = head_full colored s.severity s.code s.message
first_full Further colored s = head_full colored s.severity s.code s.message
first_full Labelled colored s = head_full colored s.severity s.code s.message
first_full Aside colored s = word_full s.severity _

drawing_full : (colored : Bool) (l : Located) (s : Said) → drawing colored l s ≢ []
drawing_full colored l s =
    before_more (head_by s.kind colored s) (below colored l s ++ codes "\n") (first_full s.kind colored s)

annotation_full : (severity : FindingSeverity) (code file : Text) (start : Position) (end : Option Position) (message : Text)
    → annotation severity code file start end message ≢ []
annotation_full Error code file start end message = starts 58 _
annotation_full Warning code file start end message = starts 58 _
annotation_full Note code file start end message = starts 58 _

result_full : (end : Option Position) (l : Located) (s : Said) (message : Text) → sarif_in end l s message ≢ []
result_full None l s message = starts 44 _
result_full (Some end) l s message = starts 44 _

drawn_full : (format : Format) (colored : Bool) (l : Located) (s : Said) → drawn_in format colored l s ≢ []
drawn_full Human colored l s = drawing_full (is_painted s.kind colored) l s
drawn_full Json colored l s = starts 123 _
drawn_full Short colored l s = after_any (safe l.file) _ (starts 58 _)
drawn_full Github colored l s = annotation_full s.severity s.code l.file l.start l.end (described s)
drawn_full Sarif colored l s = result_full l.end l s (described s)

pub never_empty : (style : Style) (l : Located) (s : Said) (message : Text) → message ≡ drawn_at style l s → message ≢ []
never_empty style l s message is none = drawn_full style.format style.is_colored l s (sym is ∙ none)

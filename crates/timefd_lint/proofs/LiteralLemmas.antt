-- The literal that a description would become.
use Rattle.std.proofs.Common.{ℕ, ◌≡◌, ◌∙◌, ◌-◌, ◌++◌, Option, Some, inl, ap, subst}
use Rattle.std.specs.Prelude.{IfSome}
use Rattle.std.specs.declared.alloc.Global.{Global}
use Rattle.std.specs.declared.vec.Vec.{Vec}
use Rattle.timefd_parse.specs.Tree.{Text}
use Rattle.timefd_lint_scan.specs.declared.description.SourceDescription.{SourceDescription}
use Rattle.timefd_lint_scan.specs.Literals.{body_end}
use Rattle.timefd_lint_scan.specs.Written.{IsBodyFor}
use Rattle.timefd_lint.specs.Manual.Literals.{IsLiteralOf, IsPart, IsQuoted, IsTextOf, old_length}

pub quoted_of : (source : Text) (d : SourceDescription) (body opening text closing : Text) (end from : ℕ)
    → end ≡ body_end d.piece d.kind → from ≡ end - old_length source d → IsPart source d.piece.start from opening
    → IsTextOf body text → IsPart source end d.piece.end closing
    → (literal : Text) → literal ≡ opening ++ (text ++ closing) → IsQuoted source d body literal
quoted_of source d body opening text closing end from ends starts first middle last literal is = (
  opening,
  text,
  closing,
  subst (λ n. IsPart source d.piece.start n opening) (starts ∙ ap (λ e. e - old_length source d) ends) first,
  middle,
  subst (λ e. IsPart source e d.piece.end closing) ends last,
  is,
)

pub in_its_quotes : (source : Text) (d : SourceDescription) (text bytes slice : Text) (found : Option (Vec ℕ Global))
    (body : Vec ℕ Global) → bytes ≡ text → found ≡ Some body → IfSome found (λ b. IsBodyFor d.kind bytes b.items)
    → slice ≡ body.items → (literal : Text) → IsQuoted source d slice literal → IsLiteralOf source d text literal
in_its_quotes source d text bytes slice found body same is for_it sliced literal quoted =
    let for_body = subst (λ f. IfSome f (λ b. IsBodyFor d.kind bytes b.items)) is for_it in
    inl (
      body.items,
      subst (λ t. IsBodyFor d.kind t body.items) same for_body,
      subst (λ b. IsQuoted source d b literal) sliced quoted,
    )

-- Strings in place of values.
use Rattle.std.proofs.Common.{ℕ, ◌≡◌, inr, subst}
use Rattle.std.specs.Prelude.{Option, None, Some}
use Rattle.std.specs.declared.alloc.Global.{Global}
use Rattle.std.specs.declared.vec.Vec.{Vec}
use Rattle.timefd_lint_scan.specs.Bytes.{Text}
use Rattle.timefd_lint_scan.specs.declared.keys.format.FileFormat.{FileFormat}
use Rattle.timefd_lint_scan.specs.declared.keys.style.StringStyle.{StringStyle}
use Rattle.timefd_lint_scan.specs.Keys.Spelled.{IsStringBy, IsStringLike, escaping}

-- There is no string that is written like the old one.
pub or_escaped : (format : FileFormat) (style other : StringStyle) (text : Text) (first found : Option (Vec ℕ Global))
    → first ≡ None → IsStringBy format style text first → other ≡ escaping format
    → IsStringBy format other text found → IsStringLike format style text found
or_escaped format style other text first None none is same second = (
  subst (IsStringBy format style text) none is,
  subst (λ (s : StringStyle). IsStringBy format s text None) same second,
)
or_escaped format style other text first (Some string) none is same second =
    inr (
      subst (IsStringBy format style text) none is,
      subst (λ (s : StringStyle). IsStringBy format s text (Some string)) same second,
    )

-- How a byte-order mark is noted.
use Rattle.std.proofs.Common.{◌≡◌, Bool, true, false, [], Option, refl, sym, subst, ◌∙◌}
use Rattle.std.specs.Io.KnownBytes.{Appends}
use Rattle.std.proofs.KnownBytes.{Appends-nil}
use Rattle.timefd_parse.specs.Tree.{Text}
use Rattle.timefd_lint_drawing.specs.declared.draw.Style.{Style}
use Rattle.timefd_lint_drawing.specs.declared.position.Origin.{Origin}
use Rattle.timefd_lint.specs.Marks.{Notes, mark_note}

pub noted : (is_marked : Bool) (style : Style) (origin : Origin) (before after : Option Text)
    (message text : Text) → is_marked ≡ true → text ≡ message → message ≡ mark_note style origin
    → Appends before after text → Notes is_marked style origin before after
noted is_marked style origin before after message text marked same is written =
    subst (λ m. Notes m style origin before after) (sym marked) (text, same ∙ is, written)

pub not_noted : (is_marked : Bool) (style : Style) (origin : Origin) (known : Option Text)
    → is_marked ≡ false → Notes is_marked style origin known known
not_noted is_marked style origin known unmarked =
    subst (λ m. Notes m style origin known known) (sym unmarked) ([], refl, Appends-nil known)

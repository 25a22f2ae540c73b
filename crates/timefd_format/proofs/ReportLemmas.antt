-- What a stream of messages gets.
use Rattle.std.proofs.Common.{◌≡◌, ◌++◌, ◌∙◌, Bool, true, false, List, [], Option, refl, sym}
use Rattle.std.proofs.lemmas.Bool.{false≢true}
use Rattle.std.proofs.KnownBytes.{Appends-nil, Appends-trans}
use Rattle.std.specs.Io.KnownBytes.{Appends}
use Rattle.std.specs.Prelude.{IsFalse, IsTrue}
use Rattle.timefd_lang_component.specs.Tree.{Text}
use Rattle.timefd_format.specs.Reports.{Gets}

pub gets_all : (text : Text) (before after : Option Text) (had_failed failed : Bool) → Appends before after text
    → (IsTrue had_failed → IsTrue failed) → Gets text before after had_failed failed
gets_all text before after had_failed failed is stays = (stays, λ works. is)

pub gets_no_more : (text : Text) (before after : Option Text) (had_failed failed : Bool) → IsTrue failed
    → (IsTrue had_failed → IsTrue failed) → Gets text before after had_failed failed
gets_no_more text before after had_failed failed fails stays =
    (stays, λ works. absurd (false≢true (sym works ∙ fails)))

pub gets_nothing : (before : Option Text) (failed : Bool) → Gets [] before before failed failed
gets_nothing before failed = (λ fails. fails, λ works. Appends-nil before)

-- One text after another.
pub gets_more : (first second : Text) (before between after : Option Text) (had_failed has_failed failed : Bool)
    → Gets first before between had_failed has_failed → Gets second between after has_failed failed
    → Gets (first ++ second) before after had_failed failed
gets_more first second before between after had_failed true failed one more =
    (λ fails. more.0 (one.0 fails), λ works. absurd (false≢true (sym works ∙ more.0 refl)))
gets_more first second before between after had_failed false failed one more = (
  λ fails. more.0 (one.0 fails),
  λ works. Appends-trans before between after first second (one.1 refl) (more.1 works),
)

-- Why a word isn't read.
use Rattle.std.proofs.Common.{ℕ, ◌≡◌, inl, inr, Option, refl, subst}
use Rattle.jiff_core.specs.declared.error.Error.{Error}
use Rattle.timefd_lang_component.specs.Tree.{Text}
use Rattle.timefd_date_moment.specs.declared.fields.fault.ReadError.{ReadError}
use Rattle.timefd_description.specs.Sentences.{unread_sentence}
use Rattle.timefd_format.specs.declared.moment.MomentError.TheVariants as fails
use Rattle.timefd_format.specs.declared.source.MomentSource.{MomentSource}
use Rattle.timefd_format.specs.Expected.{IsExpectedIn}
use Rattle.timefd_format.specs.Messages.{IsStopSentence, IsUnreadMessage, expected_sentence, no_moment, not_read}

pub plain : (source : MomentSource) (word : Text) (u : ReadError) (why : Text) → why ≡ unread_sentence u
    → IsStopSentence source word u why
plain source word u why is = inl is

pub named : (source : MomentSource) (word : Text) (u : ReadError) (why literal : Text) → IsExpectedIn source word literal
    → why ≡ expected_sentence literal u.index → IsStopSentence source word u why
named source word u why literal expected is = inr (literal, expected, is)

pub unread : (source : MomentSource) (line : Option ℕ) (word : Text) (u : ReadError) (why message : Text)
    → IsStopSentence source word u why → message ≡ not_read line word why
    → IsUnreadMessage source line word (fails.Unread u) message
unread source line word u why message stop is = (why, stop, is)

-- A text that isn't a moment, and why.
pub no_text : (source : MomentSource) (line : Option ℕ) (word : Text) (e : Error) (why message : Text)
    → message ≡ no_moment word why → IsUnreadMessage source line word (fails.Text e) message
no_text source line word e why message is = (why, is)

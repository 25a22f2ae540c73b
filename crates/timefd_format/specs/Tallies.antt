-- What words come to, and the exit status that reports it.
use Rattle.std.specs.Prelude.{ℕ, Bool, true, false, ◌||◌, if◌then◌else◌}
use Rattle.timefd_format.specs.declared.end.RunOutcome.{RunOutcome}
use Rattle.timefd_format.specs.declared.end.RunOutcome.TheVariants as ends
use Rattle.timefd_format.specs.declared.outcome.WordOutcome.{WordOutcome}
use Rattle.timefd_format.specs.declared.outcome.WordOutcome.TheVariants.{Written, Unshown, Unread, NotText}
use Rattle.timefd_format.specs.declared.outcome.WordTally.{WordTally}

abbrev pub is_refused : WordOutcome → Bool
is_refused (Written m) = false
is_refused (Unshown m u) = true
is_refused (Unread e) = true
is_refused NotText = false

abbrev pub is_not_text : WordOutcome → Bool
is_not_text (Written m) = false
is_not_text (Unshown m u) = false
is_not_text (Unread e) = false
is_not_text NotText = true

abbrev pub at_end : Bool → WordTally
at_end failed = record { is_refused = false; not_text = false; has_failed = failed }

-- the tally of a record without the field that is asked for, or of a table without its column
abbrev pub refused : WordTally
refused = record { is_refused = true; not_text = false; has_failed = false }

abbrev pub tally_of : WordOutcome → WordTally
tally_of outcome = record {
  is_refused = is_refused outcome;
  not_text = is_not_text outcome;
  has_failed = false;
}

abbrev pub both : WordTally → WordTally → WordTally
both a b = record {
  is_refused = a.is_refused || b.is_refused;
  not_text = a.not_text || b.not_text;
  has_failed = a.has_failed || b.has_failed;
}

abbrev pub tally_status : WordTally → ℕ
tally_status t =
    if t.has_failed then 4 else if t.not_text then 5 else if t.is_refused then 1 else 0

abbrev pub status : RunOutcome → ℕ
status ends.Refused = 1
status (ends.Done w t) = tally_status t

-- The state of a stream after the calls so far.
use Rattle.std.specs.Prelude.{Bool, true, false}
use Rattle.timefd_bin_streams.specs.declared.sink.State.{State}
use Rattle.timefd_bin_streams.specs.declared.sink.State.TheVariants.{Unflushed, Flushed, Failed}

abbrev pub is_failed : State → Bool
is_failed Unflushed = false
is_failed Flushed = false
is_failed Failed = true

abbrev pub is_flushed : State → Bool
is_flushed Unflushed = false
is_flushed Flushed = true
is_flushed Failed = false

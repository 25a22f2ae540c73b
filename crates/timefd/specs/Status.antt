-- The exit status of each end.
use Rattle.std.specs.Prelude.{ℕ}
use Rattle.timefd.specs.declared.end.RunEnd.{RunEnd}
use Rattle.timefd.specs.declared.end.RunEnd.TheVariants.{Accepted, Refused, Memory, ReadFailed, WriteFailed, NotUtf8}

abbrev pub status : RunEnd → ℕ
status Accepted = 0
status Refused = 1
status Memory = 3
status ReadFailed = 4
status WriteFailed = 4
status NotUtf8 = 5

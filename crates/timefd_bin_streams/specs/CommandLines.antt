-- The words of a command line, as the system answers them.
use Rattle.std.specs.Prelude.{◌≡◌, Result, Ok, Err, String, Vec}
use Rattle.std.specs.Vec.Iter.{into_iter_items}
use Rattle.std.specs.declared.vec.IntoIter.{IntoIter}
use Rattle.std.specs.IoError.{error_kind}
use Rattle.std.specs.declared.alloc.Global.{Global}
use Rattle.std.specs.declared.io.Error.{Error}
use Rattle.std.specs.declared.io.ErrorKind.{ErrorKind}
use Rattle.std.specs.declared.io.ErrorKind.TheVariants as kinds
use Rattle.timefd_bin_streams.specs.declared.words.WordsError.{WordsError}
use Rattle.timefd_bin_streams.specs.declared.words.WordsError.TheVariants.{Memory, NotText}

-- A kind of error says that memory ran out, or that a word isn't UTF-8.
abbrev pub why : ErrorKind → WordsError
why kinds.OutOfMemory = Memory
why kind = NotText

-- all words, unless memory runs out
abbrev pub AreCollected : IntoIter (String Global) Global → Result (Vec (String Global) Global) WordsError → Type 0
AreCollected words (Ok all) = all.items ≡ into_iter_items words
AreCollected words (Err error) = error ≡ Memory

-- The words are those that the system answers with. Where it answers with an error, that is the reason.
abbrev pub AreWords : Result (IntoIter (String Global) Global) Error → Result (Vec (String Global) Global) WordsError → Type 0
AreWords (Ok words) answer = AreCollected words answer
AreWords (Err error) answer = answer ≡ Err (why (error_kind error))

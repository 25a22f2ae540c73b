-- The sentence about a part of a text that doesn't read.
use Rattle.std.specs.Prelude.{◌++◌, codes}
use Rattle.std.specs.Fmt.{decimal}
use Rattle.timefd_parse.specs.Tree.{Text}
use Rattle.timefd_date_format.specs.Sentences.{name}
use Rattle.timefd_date_moment.specs.declared.fields.fault.ReadError.{ReadError}
use Rattle.timefd_date_moment.specs.declared.fields.fault.UnreadReason.{UnreadReason}
use Rattle.timefd_date_moment.specs.declared.fields.fault.UnreadReason.TheVariants as for

-- Why it doesn't read, without the position.
abbrev pub reason_sentence : UnreadReason → Text
reason_sentence (for.Unread c) =
    codes "the component `" ++ (name c ++ codes "` was expected")
reason_sentence (for.Contradiction c) =
    codes "the component `" ++ (name c ++ codes "` has a different value")
reason_sentence for.Literal = codes "another text was expected"
reason_sentence for.Trailing = codes "nothing may follow"

-- Why it doesn't read, and the byte index where it begins.
abbrev pub unread_sentence : ReadError → Text
unread_sentence u = reason_sentence u.reason ++ (codes " at byte " ++ decimal u.index)

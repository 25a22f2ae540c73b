-- Which reply is right for a text.
use Rattle.std.specs.Prelude.{ℕ, string_bytes}
use Rattle.timefd_parse.specs.Tree.{Text}
use Rattle.timefd.specs.declared.end.RunEnd.{RunEnd}
use Rattle.timefd.specs.declared.kind.Kind.{Kind}
use Rattle.timefd.specs.declared.reply.Reply.{Reply}
use Rattle.timefd.specs.declared.reply.Reply.TheVariants.{Accepted, Refused}
use Rattle.timefd.specs.Line.{IsOkLine, IsFaultLine}

abbrev pub line_of : Reply → Text
line_of (Accepted line) = string_bytes line
line_of (Refused line) = string_bytes line

abbrev pub end_of : Reply → RunEnd
end_of (Accepted line) = RunEnd.Accepted
end_of (Refused line) = RunEnd.Refused

-- The reply has the line for the text.
abbrev pub IsReply : Kind → ℕ → Text → Reply → Type 0
IsReply kind limit text (Accepted line) = IsOkLine kind limit text (string_bytes line)
IsReply kind limit text (Refused line) = IsFaultLine kind limit text (string_bytes line)

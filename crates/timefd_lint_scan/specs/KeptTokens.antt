-- What a kept token stands for.
use Rattle.std.specs.Prelude.{ℕ, ◌+◌, ◌*◌}
use Rattle.timefd_lint_scan.specs.declared.kept.KeptKind.{KeptKind}
use Rattle.timefd_lint_scan.specs.declared.kept.KeptKind.TheVariants as kinds
use Rattle.timefd_lint_scan.specs.declared.piece.PlacedToken.{PlacedToken}
use Rattle.timefd_lint_scan.specs.declared.token.Encoding.TheVariants.{Str, Bytes, C}
use Rattle.timefd_lint_scan.specs.declared.token.LiteralKind.TheVariants.{Escaped, Raw}
use Rattle.timefd_lint_scan.specs.declared.token.Token.{Token}
use Rattle.timefd_lint_scan.specs.declared.token.Token.TheVariants.{White, Comment, Word, Lifetime, Character, Literal, Sign, Unclosed}

-- a token, by what is kept of it, and by the number of `#` at either end if it is a raw literal
abbrev pub token_of : KeptKind → ℕ → Token
token_of kinds.White n = White
token_of kinds.Comment n = Comment
token_of kinds.Word n = Word
token_of kinds.Lifetime n = Lifetime
token_of kinds.Character n = Character
token_of kinds.EscapedStr n = Literal (Escaped Str)
token_of kinds.EscapedBytes n = Literal (Escaped Bytes)
token_of kinds.EscapedC n = Literal (Escaped C)
token_of kinds.RawStr n = Literal (Raw Str n)
token_of kinds.RawBytes n = Literal (Raw Bytes n)
token_of kinds.RawC n = Literal (Raw C n)
token_of kinds.Sign n = Sign
token_of kinds.Unclosed n = Unclosed

abbrev pub hash_count : Token → ℕ
hash_count White = 0
hash_count Comment = 0
hash_count Word = 0
hash_count Lifetime = 0
hash_count Character = 0
hash_count (Literal (Escaped e)) = 0
hash_count (Literal (Raw e n)) = n
hash_count Sign = 0
hash_count Unclosed = 0

abbrev pub view_of : KeptKind → ℕ → ℕ → ℕ → ℕ → PlacedToken
view_of kind many few start end = record { token = token_of kind (many * 65536 + few); start = start; end = end }

-- The server's messages.
use Rattle.std.specs.Prelude.{ℕ, ℤ, negsuc, List, codes, Option, Some, None}
use Rattle.timefd_lint_lsp.specs.declared.reply.RequestAnswer.{RequestAnswer}
use Rattle.timefd_lint_lsp.specs.declared.reply.RequestAnswer.TheVariants as answers
use Rattle.timefd_lint_lsp.specs.declared.reply.RequestRefusal.{RequestRefusal}
use Rattle.timefd_lint_lsp.specs.declared.reply.RequestRefusal.TheVariants.{NotJson, InvalidRequest, UnknownMethod, WrongParams, NotInitialized, TooLong}

-- negsuc n is -(n + 1)
abbrev pub code_of : RequestRefusal → ℤ
code_of NotJson = negsuc 32699
code_of InvalidRequest = negsuc 32599
code_of UnknownMethod = negsuc 32600
code_of WrongParams = negsuc 32601
code_of NotInitialized = negsuc 32001
code_of TooLong = negsuc 32599

abbrev pub sentence_of : RequestRefusal → List ℕ
sentence_of NotJson = codes "the content isn't JSON"
sentence_of InvalidRequest = codes "the content isn't a request that is allowed here"
sentence_of UnknownMethod = codes "there is no such method"
sentence_of WrongParams = codes "the parameters aren't those of the method"
sentence_of NotInitialized = codes "`initialize` has to come first"
sentence_of TooLong = codes "the content has more than 16 MiB"

-- why a request is refused, if it is
abbrev pub refusal_of : RequestAnswer → Option RequestRefusal
refusal_of answers.Capabilities = None
refusal_of answers.Nothing = None
refusal_of (answers.Hover hover) = None
refusal_of (answers.Completion completion) = None
refusal_of (answers.Actions uri actions) = None
refusal_of (answers.Refused refusal) = Some refusal

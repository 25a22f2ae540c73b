-- The server's messages, as values of JSON. An object has its members in the order of their names.
use Rattle.std.specs.Prelude.{ℕ, List, codes, Option, Some, None, string_bytes, true}
use Rattle.serde_json.specs.Data.{Data, null, boolean, number, unsigned, string, array, object, item, no_items, member, no_members}
use Rattle.serde_json.specs.Find.{of_integer}
use Rattle.timefd_lint_lsp.specs.Replies.{code_of, sentence_of}
use Rattle.timefd_lint_lsp.specs.Shown.{actions_data, completion_data, findings_data, hover_data, loss_data}
use Rattle.timefd_lint_lsp.specs.declared.envelope.Id.{Id}
use Rattle.timefd_lint_lsp.specs.declared.envelope.Id.TheVariants as ids
use Rattle.timefd_lint_lsp.specs.declared.reply.RequestAnswer.{RequestAnswer}
use Rattle.timefd_lint_lsp.specs.declared.reply.RequestAnswer.TheVariants as answers
use Rattle.timefd_lint_lsp.specs.declared.reply.RequestRefusal.{RequestRefusal}
use Rattle.timefd_lint_lsp.specs.declared.reply.ServerMessage.{ServerMessage}
use Rattle.timefd_lint_lsp.specs.declared.reply.ServerMessage.TheVariants as replies

abbrev pub id_data : Option Id → Data
id_data None = null
id_data (Some (ids.Number n)) = number (of_integer n)
id_data (Some (ids.Text text)) = string (string_bytes text)

-- the response with the result of the request with this id
abbrev pub answered : Data → Data → Data
answered id result = object (member (codes "id") id (member (codes "jsonrpc") (string (codes "2.0"))
    (member (codes "result") result no_members)))

abbrev pub error_data : RequestRefusal → Data
error_data refusal = object (member (codes "code") (number (of_integer (code_of refusal)))
    (member (codes "message") (string (sentence_of refusal)) no_members))

-- the response that refuses the request
abbrev pub refused : Data → RequestRefusal → Data
refused id refusal = object (member (codes "error") (error_data refusal)
    (member (codes "id") id (member (codes "jsonrpc") (string (codes "2.0")) no_members)))

abbrev pub published_of : List ℕ → Data → Data
published_of uri findings = object (member (codes "diagnostics") findings (member (codes "uri") (string uri) no_members))

-- what is wrong in a document, as a notification
abbrev pub published : List ℕ → Data → Data
published uri findings = object (member (codes "jsonrpc") (string (codes "2.0"))
    (member (codes "method") (string (codes "textDocument/publishDiagnostics"))
    (member (codes "params") (published_of uri findings) no_members)))

-- the kinds of actions that an editor may ask for
abbrev pub action_kinds : Data
action_kinds = object (member (codes "codeActionKinds")
    (array (item (string (codes "quickfix")) (item (string (codes "refactor.rewrite"))
    (item (string (codes "source.fixAll.timefd")) no_items)))) no_members)

-- after which characters an editor asks what may be written
abbrev pub trigger_characters : Data
trigger_characters = object (member (codes "triggerCharacters")
    (array (item (string (codes "[")) (item (string (codes " ")) (item (string (codes ":")) no_items)))) no_members)

-- The server takes changes of ranges (2), and counts characters in UTF-16.
abbrev pub provided : Data
provided = object (member (codes "codeActionProvider") action_kinds
    (member (codes "completionProvider") trigger_characters
    (member (codes "hoverProvider") (boolean true)
    (member (codes "positionEncoding") (string (codes "utf-16"))
    (member (codes "textDocumentSync") (number (unsigned 2)) no_members)))))

abbrev pub server : Data
server = object (member (codes "name") (string (codes "timefd_lint"))
    (member (codes "version") (string (codes "0.2.0")) no_members))

abbrev pub capabilities : Data
capabilities = object (member (codes "capabilities") provided (member (codes "serverInfo") server no_members))

abbrev pub response : Data → RequestAnswer → Data
response id (answers.Refused refusal) = refused id refusal
response id answers.Capabilities = answered id capabilities
response id answers.Nothing = answered id null
response id (answers.Hover hover) = answered id (hover_data hover)
response id (answers.Completion completion) = answered id (completion_data completion)
response id (answers.Actions uri actions) = answered id (actions_data (string_bytes uri) actions.items)

-- the value of a reply
abbrev pub reply_data : ServerMessage → Data
reply_data (replies.Response id answer) = response (id_data id) answer
reply_data (replies.Findings uri findings) = published (string_bytes uri) (findings_data findings.items)
reply_data (replies.Lost uri) = published (string_bytes uri) loss_data

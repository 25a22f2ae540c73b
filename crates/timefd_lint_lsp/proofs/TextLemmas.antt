-- The server's messages have no number with a fraction, so their texts are determined.
use Rattle.std.proofs.Common.{ℕ, pos, negsuc, ◌≡◌, ◌∙◌, Bool, false, ◌||◌, List, [], ◌∷◌, Global, String, ap, map, refl}
use Rattle.std.specs.declared.alloc.AllocError.{AllocError}
use Rattle.std.specs.Prelude.{IfOk, Option, Some, None, Result, Ok, Err, string_bytes}
use denote.Ref.{Bor}
use Rattle.serde_json.specs.Data.{Data}
use Rattle.serde_json.specs.View.{items_of}
use Rattle.serde_json.specs.Written.{compact_text, has_float, items_have_float}
use Rattle.timefd_lint_lsp.specs.declared.editor.action.Action.{Action}
use Rattle.timefd_lint_lsp.specs.Shown.{action_data, edit_data, finding_data, word_data}
use Rattle.timefd_lint_lsp.specs.Texts.{error_data, id_data, reply_data, response}
use Rattle.timefd_lint_lsp.specs.declared.envelope.Id.{Id}
use Rattle.timefd_lint_lsp.specs.declared.envelope.Id.TheVariants as ids
use Rattle.timefd_lint_lsp.specs.declared.reply.RequestAnswer.{RequestAnswer}
use Rattle.timefd_lint_lsp.specs.declared.reply.RequestAnswer.TheVariants as answers
use Rattle.timefd_lint_lsp.specs.declared.reply.RequestRefusal.{RequestRefusal}
use Rattle.timefd_lint_lsp.specs.declared.reply.RequestRefusal.TheVariants.{NotJson, InvalidRequest, UnknownMethod, WrongParams, NotInitialized, TooLong}
use Rattle.timefd_lint_lsp.specs.declared.reply.ServerMessage.{ServerMessage}
use Rattle.timefd_lint_lsp.specs.declared.reply.ServerMessage.TheVariants as replies

abbrev IsWhole : Data → Type 0
IsWhole d = has_float d ≡ false

neither : (a b : Bool) → a ≡ false → b ≡ false → (a || b) ≡ false
neither a b first second = ap (λ x. x || b) first ∙ second

list_is_whole : {T : Type 0} (shown : T → Data) → ((x : T) → IsWhole (shown x)) → (xs : List T)
    → items_have_float (items_of (map shown xs)) ≡ false
list_is_whole shown each [] = refl
list_is_whole shown each (x ∷ xs) =
    neither (has_float (shown x)) (items_have_float (items_of (map shown xs))) (each x)
    (list_is_whole shown each xs)

id_is_whole : (id : Option Id) → IsWhole (id_data id)
id_is_whole None = refl
id_is_whole (Some (ids.Number (pos n))) = refl
id_is_whole (Some (ids.Number (negsuc n))) = refl
id_is_whole (Some (ids.Text text)) = refl

error_is_whole : (refusal : RequestRefusal) → IsWhole (error_data refusal)
error_is_whole NotJson = refl
error_is_whole InvalidRequest = refl
error_is_whole UnknownMethod = refl
error_is_whole WrongParams = refl
error_is_whole NotInitialized = refl
error_is_whole TooLong = refl

action_is_whole : (uri : List ℕ) (action : Action) → IsWhole (action_data uri action)
action_is_whole uri action =
    ap (λ b. ((b || false) || false) || false) (list_is_whole edit_data (λ edit. refl) action.edits.items)

response_is_whole : (id : Data) (answer : RequestAnswer) → IsWhole id → IsWhole (response id answer)
response_is_whole id answers.Capabilities whole = ap (λ b. b || false) whole
response_is_whole id answers.Nothing whole = ap (λ b. b || false) whole
response_is_whole id (answers.Hover hover) whole = ap (λ b. b || false) whole
response_is_whole id (answers.Completion completion) whole =
    let shown : Bor (List ℕ) → Data = λ w. word_data completion.range completion.slot w.now in
    let listed : items_have_float (items_of (map shown completion.words.items)) ≡ false =
    list_is_whole shown (λ w. refl) completion.words.items in
    neither (has_float id) (items_have_float (items_of (map shown completion.words.items)) || false) whole
    (ap (λ b. b || false) listed)
response_is_whole id (answers.Actions uri actions) whole =
    let name : List ℕ = string_bytes uri in
    let listed : items_have_float (items_of (map (action_data name) actions.items)) ≡ false =
    list_is_whole (action_data name) (action_is_whole name) actions.items in
    neither (has_float id) (items_have_float (items_of (map (action_data name) actions.items)) || false) whole
    (ap (λ b. b || false) listed)
response_is_whole id (answers.Refused refusal) whole =
    neither (has_float (error_data refusal)) (has_float id || false) (error_is_whole refusal)
    (ap (λ b. b || false) whole)

reply_is_whole : (reply : ServerMessage) → IsWhole (reply_data reply)
reply_is_whole (replies.Response id answer) = response_is_whole (id_data id) answer (id_is_whole id)
reply_is_whole (replies.Findings uri findings) =
    ap (λ b. (b || false) || false) (list_is_whole finding_data (λ finding. refl) findings.items)
reply_is_whole (replies.Lost uri) = refl

pub written : (reply : ServerMessage) (said : Data) (text : Result (String Global) AllocError) → said ≡ reply_data reply
    → IfOk text (λ s. IsWhole said → string_bytes s ≡ compact_text said)
    → IfOk text (λ s. string_bytes s ≡ compact_text (reply_data reply))
written reply said (Ok s) is compact =
    compact (ap has_float is ∙ reply_is_whole reply) ∙ ap compact_text is
written reply said (Err e) is compact = compact

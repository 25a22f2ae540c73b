-- The message that a value of JSON is.
use Rattle.std.specs.Prelude.{ℕ, ℤ, List, Bool, false, ◌||◌, Option, Some, None, codes, bytes_eq, is_some, option_and_then, string_bytes, if◌then◌else◌}
use Rattle.serde_json.specs.Data.{Data}
use Rattle.serde_json.specs.Find.{get, as_str, as_number, as_i64}
use Rattle.timefd_lint_lsp.specs.declared.envelope.Envelope.{Envelope}
use Rattle.timefd_lint_lsp.specs.declared.envelope.Envelope.TheVariants as envelopes
use Rattle.timefd_lint_lsp.specs.declared.envelope.Id.{Id}
use Rattle.timefd_lint_lsp.specs.declared.envelope.Id.TheVariants as ids

-- an id, without the address of its text in memory
pub data IdValue : Type 0 where
  number_id : ℤ → IdValue
  text_id : List ℕ → IdValue

abbrev pub seen_id : Id → IdValue
seen_id (ids.Number n) = number_id n
seen_id (ids.Text text) = text_id (string_bytes text)

pub data Shape : Type 0 where
  request : IdValue → List ℕ → Shape
  notification : List ℕ → Shape
  response : Shape
  invalid : Shape

abbrev pub seen : Envelope → Shape
seen (envelopes.Request id method) = request (seen_id id) method.now
seen (envelopes.Notification method) = notification method.now
seen envelopes.Response = response
seen envelopes.Invalid = invalid

abbrev pub is_two : Option (List ℕ) → Bool
is_two (Some version) = bytes_eq version (codes "2.0")
is_two None = false

-- whether the value says that it is a message of JSON-RPC 2.0
abbrev pub is_message : Data → Bool
is_message d = is_two (option_and_then as_str (get (codes "jsonrpc") d))

abbrev pub number_or : Option ℤ → Option (List ℕ) → Option IdValue
number_or (Some n) text = Some (number_id n)
number_or None (Some text) = Some (text_id text)
number_or None None = None

-- an integer or a text
abbrev pub id_of : Data → Option IdValue
id_of d = number_or (option_and_then as_i64 (as_number d)) (as_str d)

abbrev pub requested : List ℕ → Option IdValue → Shape
requested method (Some id) = request id method
requested method None = invalid

-- a message with an id is a request, and one without an id a notification
abbrev pub with_method : List ℕ → Option Data → Shape
with_method method (Some id) = requested method (id_of id)
with_method method None = notification method

abbrev pub is_response : Data → Bool
is_response d = is_some (get (codes "result") d) || is_some (get (codes "error") d)

abbrev pub by_method : Option (List ℕ) → Data → Shape
by_method (Some method) d = with_method method (get (codes "id") d)
by_method None d = if is_response d then response else invalid

abbrev pub envelope_of : Data → Shape
envelope_of d =
    if is_message d then by_method (option_and_then as_str (get (codes "method") d)) d else invalid

-- What messages say.
use Rattle.std.specs.Prelude.{ℕ, Bool, false, ◌||◌, if◌then◌else◌, List, codes, string_bytes, Option, Some, None, is_some, option_and_then, unwrap_or}
use Rattle.std.specs.Str.{bytes_eq, is_utf8}
use Rattle.serde_json.specs.Data.{Data, null}
use Rattle.serde_json.specs.Find.{as_integer, as_number, as_str, get}
use Rattle.serde_json.specs.Read.{read}
use Rattle.serde_json.specs.View.{view}
use Rattle.aom_language_answers.specs.declared.replies.ReplyFault.{ReplyFault}
use Rattle.aom_language_answers.specs.declared.replies.ReplyFault.TheVariants.{Parse, Request}
use Rattle.aom_language_answers.specs.declared.request.Incoming.{Incoming}
use Rattle.aom_language_answers.specs.declared.request.Incoming.TheVariants as incoming

-- what a message is
pub data Message : Type 0 where
  A_request : (id : Data) → (method : List ℕ) → (params : Data) → Message
  A_notification : (method : List ℕ) → (params : Data) → Message
  A_response : Message
  No_message : (id : Data) → (fault : ReplyFault) → Message

-- a message of the program, as it is seen
abbrev pub message_view : Incoming → Message
message_view (incoming.Request id method params) = A_request (view id) (string_bytes method) (view params)
message_view (incoming.Notification method params) = A_notification (string_bytes method) (view params)
message_view incoming.Response = A_response
message_view (incoming.Refused id fault) = No_message (view id) fault

-- a request is told by a text or an integer
abbrev pub is_id : Data → Bool
is_id d = is_some (as_str d) || is_some (option_and_then as_integer (as_number d))

abbrev pub is_version : Option (List ℕ) → Bool
is_version None = false
is_version (Some version) = bytes_eq version (codes "2.0")

-- the method that is called, if it is a message of the protocol
abbrev pub method_said : Data → Option (List ℕ)
method_said d = if is_version (option_and_then as_str (get (codes "jsonrpc") d)) then option_and_then as_str (get (codes "method") d) else None

abbrev pub params_said : Data → Data
params_said d = unwrap_or (get (codes "params") d) null

-- it says how a request has gone
abbrev pub says_outcome : Data → Bool
says_outcome d = is_some (get (codes "result") d) || is_some (get (codes "error") d)

-- a message with a method is a request, if it has a number
abbrev pub called : Option Data → (method : List ℕ) → (params : Data) → Message
called None method params = A_notification method params
called (Some id) method params = if is_id id then A_request id method params else No_message null Request

-- one without a method is a response, if it has a number and says how it went; else it is refused, by its number, if it has
abbrev pub not_called : Option Data → (says_outcome : Bool) → Message
not_called None says_outcome = No_message null Request
not_called (Some id) says_outcome = if says_outcome then A_response else if is_id id then No_message id Request else No_message null Request

abbrev pub message_by : Option (List ℕ) → Data → Message
message_by (Some method) d = called (get (codes "id") d) method (params_said d)
message_by None d = not_called (get (codes "id") d) (says_outcome d)

abbrev pub message_in : Option Data → Message
message_in None = No_message null Parse
message_in (Some d) = message_by (method_said d) d

-- the value that a text of JSON is
unfoldable pub value_said : List ℕ → Option Data
value_said bytes = if is_utf8 bytes then read bytes else None

-- the message that bytes are
abbrev pub message_said : List ℕ → Message
message_said bytes = message_in (value_said bytes)

-- What is sent, as JSON.
use Rattle.std.specs.Prelude.{List, ℕ, ℤ, negsuc, codes}
use Rattle.serde_json.specs.Data.{Data, negative, number, object, string, member, no_members}
use Rattle.aom_language_answers.specs.declared.replies.ReplyFault.{ReplyFault}
use Rattle.aom_language_answers.specs.declared.replies.ReplyFault.TheVariants as faults

-- the numbers that the protocol has for faults
abbrev pub fault_code : ReplyFault → ℤ
fault_code faults.Parse = negsuc 32699
fault_code faults.Request = negsuc 32599
fault_code faults.Method = negsuc 32600
fault_code faults.Params = negsuc 32601
fault_code faults.NotInitialized = negsuc 32001

abbrev pub fault_text : ReplyFault → List ℕ
fault_text faults.Parse = codes "this is no message"
fault_text faults.Request = codes "this is no request that can be answered now"
fault_text faults.Method = codes "there is no such method"
fault_text faults.Params = codes "the parameters do not fit"
fault_text faults.NotInitialized = codes "initialize comes first"

-- the answer to a request
abbrev pub reply_data : (id result : Data) → Data
reply_data id result = object (member (codes "id") id (member (codes "jsonrpc") (string (codes "2.0")) (member (codes "result") result no_members)))

-- the refusal of a request
abbrev pub fault_data : (id : Data) → ReplyFault → Data
fault_data id fault =
    object (member (codes "error") (object (member (codes "code") (number (negative (fault_code fault))) (member (codes "message") (string (fault_text fault)) no_members)))
    (member (codes "id") id (member (codes "jsonrpc") (string (codes "2.0")) no_members)))

-- a notification
abbrev pub notice_data : (method : List ℕ) → (params : Data) → Data
notice_data method params =
    object (member (codes "jsonrpc") (string (codes "2.0")) (member (codes "method") (string method) (member (codes "params") params no_members)))

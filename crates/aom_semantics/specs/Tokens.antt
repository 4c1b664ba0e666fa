-- Tokens: messages that an object hands out, each for one request, which a reply to it completes.
use Rattle.std.specs.Prelude.{◌≡◌, ℕ, suc, max, ℤ, negsuc, Bool, true, false, cond, ◌&&◌, ◌==◌, nat_le, map, List, [], ◌∷◌, Option, Some, None, is_none}
use Rattle.aom_image.specs.Image.{Image}
use Rattle.aom_image.specs.declared.method.Thing.{Thing}
use Rattle.aom_image.specs.declared.method.Thing.TheVariants.{Object as An_object_of, Message}
use Rattle.aom_roles.specs.Kinds.{is_token_kind}
use Rattle.aom_semantics.specs.Clients.{count_messages}
use Rattle.aom_semantics.specs.Requests.{completed_with, receiver_kind, in_phase, is_idle, needs_added, on_request, own_request, pending, recorded, request_updated}
use Rattle.aom_semantics.specs.Natives.{is_owed}
use Rattle.aom_semantics.specs.Places.{Cell, Issued, Object, Place, Request, Service, Token, held, requested, service_of, unserved}
use Rattle.aom_semantics.specs.State.{AtRoot, Frame, Receiver, Inside, Need, Orphan, RequestOverlap, State, Static, Task, WrongKind}
use Rattle.aom_semantics.specs.Words.{here}

-- ---- a token is handed out

-- the order of the next token, after all that there are and all that are waited for
abbrev pub order_past : Option ℕ → ℕ
order_past None = 0
order_past (Some k) = suc k

abbrev pub order_in : Option Token → Option ℕ
order_in None = None
order_in (Some t) = Some t.order

abbrev pub awaited : Option Request → Option ℕ
awaited None = None
awaited (Some r) = r.token

abbrev pub next_token : List Cell → ℕ
next_token [] = 0
next_token (c ∷ cs) = max (order_past (order_in c.service.token)) (max (order_past (awaited c.request)) (next_token cs))

-- a request that waits for the token of that order
abbrev pub promised : ℕ → Request → Request
promised order r = record r { phase = Issued; status = pending; timer = None; token = Some order }

abbrev pub class_of_thing : Thing → ℕ
class_of_thing (An_object_of c) = c
class_of_thing Message = 0

-- the class of what a frame works on
abbrev pub receiver_class : Receiver → ℕ
receiver_class Static = 0
receiver_class AtRoot = 0
receiver_class (Inside o from) = class_of_thing o.thing

-- what clients have at a token: nothing, and it tells whose it is
abbrev pub handed_out : Token → Service
handed_out token = record unserved { token = Some token }

-- one more message, which is a token
abbrev pub with_token : ℕ → Token → Place → List Cell → List Cell
with_token name token owner cs = record { object = record { name = name; thing = Message }; words = []; request = None; session = false; service = handed_out token; owner = owner } ∷ cs

-- what a frame works on makes a request, and its token is there under that name
abbrev pub handed_cells : ℕ → Receiver → Place → List Cell → List Cell
handed_cells name receiver owner cs =
    with_token name (record { class = receiver_class receiver; order = next_token cs }) owner (request_updated cs receiver (on_request (promised (next_token cs)) (own_request cs receiver)))

-- no message place is free
abbrev pub is_message_store_full : Image → List Cell → Bool
is_message_store_full p cs = nat_le p.header.messages (count_messages cs)

-- the code of a request for which no place is free, KErrServerBusy
abbrev pub busy : ℤ
busy = negsuc 15

-- ---- and replied to

-- the request waits for the token of that order
abbrev pub is_order : ℕ → Option ℕ → Bool
is_order order None = false
is_order order (Some k) = k == order

abbrev pub awaits : ℕ → Option Request → Bool
awaits order r = is_order order (awaited r)

-- it is completed with that code then, and waits for none
abbrev pub redeemed_with : ℤ → Request → Request
redeemed_with code r = completed_with (recorded code) r

abbrev pub redeemed_request : ℕ → ℤ → Option Request → Option Request
redeemed_request order code r = cond (awaits order r) (on_request (redeemed_with code) r) r

abbrev pub redeemed : ℕ → ℤ → Cell → Cell
redeemed order code c = record c { request = redeemed_request order code c.request }

abbrev pub all_redeemed : ℕ → ℤ → List Cell → List Cell
all_redeemed order code cs = map (redeemed order code) cs

-- the order of the token that an object is, if it is one
abbrev pub token_of : List Cell → Option Object → Option ℕ
token_of cs None = None
token_of cs (Some o) = order_in (service_of cs o.name).token

abbrev pub redeemed_by : Option ℕ → ℤ → List Cell → List Cell
redeemed_by None code cs = cs
redeemed_by (Some order) code cs = all_redeemed order code cs

-- what waits for it is pending
abbrev pub is_redeemable : Option ℕ → List Cell → Bool
is_redeemable None cs = true
is_redeemable (Some order) [] = true
is_redeemable (Some order) (c ∷ cs) = cond (awaits order c.request) (is_owed c.request && is_redeemable (Some order) cs) (is_redeemable (Some order) cs)

-- ---- the needs

module _ (p : Image) (fr : Frame) (ts : List Task) (s : State) where
  abbrev pub needs_token : Need
  needs_token = (is_token_kind (receiver_kind p fr.receiver), WrongKind)

  -- a free register, an object that hands tokens, and no request that is made
  abbrev pub needs_hand : ℕ → List Need
  needs_hand a =
      (is_none (held s.cells (here fr ts s a)), Orphan)
      ∷ needs_token
      ∷ needs_added p fr ts s
      ∷ (in_phase is_idle (own_request s.cells fr.receiver), RequestOverlap)
      ∷ []

-- ---- what is kept of them

-- no two requests wait for one order, and no two tokens have one
pub record TokensApart (cs : List Cell) : Type 0 where
  pub waits : (n m k : ℕ) → awaited (requested cs n) ≡ Some k → awaited (requested cs m) ≡ Some k → n ≡ m
  pub reported : (n m k : ℕ) → order_in (service_of cs n).token ≡ Some k → order_in (service_of cs m).token ≡ Some k → n ≡ m

-- What becomes of tokens: one is handed out for a request, or there is no room for it, and one is replied to.
use Rattle.std.specs.Prelude.{◌≡◌, ◌<◌, ◌+◌, ◌⊎◌, ℕ, ℤ, true, is_some, IfSome, IsSome, IsTrue, Some, None}
use Rattle.aom_active_objects.specs.Meanings.{Makes}
use Rattle.aom_cells.specs.Heap.{null}
use Rattle.aom_clients.specs.Clients.{place_at}
use Rattle.aom_clients.specs.Table.{completion}
use Rattle.aom_machine_state.specs.LineBuffer.{LineBuffer}
use Rattle.aom_cells.specs.Store.{Changes, IsStored, count, first_number, message_at}
use Rattle.aom_machine_state.specs.declared.parts.Parts.{Parts}
use Rattle.aom_machine_state.specs.Tokens as meant
use Rattle.aom_machine_state.specs.Tokens.{ClosesSession, no_words}
use Rattle.aom_scheduler.specs.Requests.{is_pending, request_at}
use Rattle.aom_semantics.specs.Requests.{completed_at_once}
use Rattle.aom_semantics.specs.Tokens.{busy, promised}
use Rattle.aom_cells.specs.Tokens.{Sets, class_at, redeemed}
use Rattle.aom_machine_instructions.specs.Serving.{Completes}

-- ---- a token is replied to

-- the request that a reply to the token at that place completes is pending
abbrev pub Pends : ℕ → Parts → Type 0
Pends place m = IfSome (redeemed m.tokens place) (λ n. IsTrue (is_pending (request_at m.active.table n)))

-- that is the number of a message that is kept: a token, or one that was taken from its queue
pub record IsAnswerable (n : ℕ) (m : Parts) : Type 0 where
  pub place : ℕ
  pub number : first_number + place ≡ n
  pub below : place < 1024
  pub kept : IsStored m.messages place
  pub pends : Pends place m
  pub taken : class_at m.tokens place ≡ None → IsSome (completion (place_at m.clients place))

-- the token at that place goes, and its place is free: the object that waits for it, if one does, waits no more
pub record Redeems (place : ℕ) (code : ℤ) (old new : Parts) : Type 0 where
  pub freed : Sets old.tokens.places new.tokens.places place None
  pub lets : ClosesSession (redeemed old.tokens place) old.tokens new.tokens
  pub answers : meant.Redeems (redeemed old.tokens place) code old.active new.active
  pub released : Changes old.messages new.messages place None
  pub count : count new.messages + 1 ≡ count old.messages
  pub rest : new ≡ record old { active = new.active; messages = new.messages; tokens = new.tokens }

-- so where the message of that number is a token, and no line is written
pub record RedeemsOne (n : ℕ) (code : ℤ) (old new : Parts) (reported now : LineBuffer) : Type 0 where
  pub place : ℕ
  pub number : first_number + place ≡ n
  pub token : is_some (class_at old.tokens place) ≡ true
  pub redeems : Redeems place code old new
  pub silent : now ≡ reported

-- and else its client is told
pub record CompletesOne (n : ℕ) (code : ℤ) (old new : Parts) (reported now : LineBuffer) : Type 0 where
  pub completes : Completes n code old new reported now
  pub sent : class_at old.tokens completes.place ≡ None

abbrev pub Answers : (n : ℕ) → ℤ → (old new : Parts) → (reported now : LineBuffer) → Type 0
Answers n code old new reported now = RedeemsOne n code old new reported now ⊎ CompletesOne n code old new reported now

-- ---- a token is handed out

-- there is no room for one: the request of the object is completed at once
pub record HandsNone (n id : ℕ) (old new : Parts) : Type 0 where
  pub null : n ≡ null
  pub full : count old.messages ≡ old.messages.limit
  pub makes : Makes old.active new.active id (completed_at_once busy)
  pub rest : new ≡ record old { active = new.active }

-- a message of that number is a token of the object, whose request waits for it
pub record HandsOne (n id class : ℕ) (old new : Parts) : Type 0 where
  pub place : ℕ
  pub number : n ≡ first_number + place
  pub below : place < 1024
  pub free : message_at old.messages place ≡ None
  pub room : count old.messages < old.messages.limit
  pub kept : Changes old.messages new.messages place (Some no_words)
  pub count : count new.messages ≡ count old.messages + 1
  pub token : Sets old.tokens.places new.tokens.places place (Some (record { class = class; object = id }))
  pub lives : Sets old.tokens.living new.tokens.living id (Some place)
  pub makes : (order : ℕ) → Makes old.active new.active id (promised order)
  pub rest : new ≡ record old { active = new.active; messages = new.messages; tokens = new.tokens }

abbrev pub Hands : (n id class : ℕ) → (old new : Parts) → Type 0
Hands n id class old new = HandsNone n id old new ⊎ HandsOne n id class old new

-- What the machine's tokens stand for.
use Rattle.std.specs.Prelude.{◌≡◌, ℕ, ℤ, pos, true, is_some, length, List, Option, Some, None, replicate}
use Rattle.aom_active_objects.specs.Agrees.{Active}
use Rattle.aom_active_objects.specs.Meanings.{Makes}
use Rattle.aom_image.specs.Image.{Image}
use Rattle.aom_cells.specs.Tokens.{Kept, Sets, class_at, live_at, object_at}
use Rattle.aom_machine_state.specs.Serving.{message_name}
use Rattle.aom_semantics.specs.Places.{Cell, Token, requested, service_of}
use Rattle.aom_semantics.specs.Tokens.{awaited, order_in, redeemed_with}

abbrev pub class_in : Option Token → Option ℕ
class_in None = None
class_in (Some t) = Some t.class

-- the class and the order of the token at a place
abbrev pub class_reported : List Cell → ℕ → Option ℕ
class_reported cs m = class_in (service_of cs (message_name m)).token

abbrev pub reported_at : List Cell → ℕ → Option ℕ
reported_at cs m = order_in (service_of cs (message_name m)).token

-- the words of a token
abbrev pub no_words : List ℤ
no_words = replicate 5 (pos 0)

-- where an object's token goes that it waits for, it waits for none
abbrev pub ClosesSession : Option ℕ → Kept → Kept → Type 0
ClosesSession None old new = new.living ≡ old.living
ClosesSession (Some n) old new = Sets old.living new.living n None

-- and its request is completed with that code
abbrev pub Redeems : Option ℕ → ℤ → Active → Active → Type 0
Redeems None code old new = new ≡ old
Redeems (Some n) code old new = Makes old new n (redeemed_with code)

-- the living token of a request that waits for that order
pub record Living (w : Kept) (cs : List Cell) (n k : ℕ) : Type 0 where
  pub place : ℕ
  pub lives : live_at w n ≡ Some place
  pub reported : reported_at cs place ≡ Some k
  pub object : object_at w place ≡ Some n

-- the same messages are tokens, of the same classes; each request that waits for one has its place, and nothing else has one
pub record SameTokens (p : Image) (w : Kept) (cs : List Cell) : Type 0 where
  pub classes : (m : ℕ) → class_at w m ≡ class_reported cs m
  pub waits : (n k : ℕ) → awaited (requested cs n) ≡ Some k → Living w cs n k
  pub lives : (n m : ℕ) → live_at w n ≡ Some m → is_some (awaited (requested cs n)) ≡ true
  -- there is room for each message and each cell
  pub places : length w.places ≡ p.header.messages
  pub cells : length w.living ≡ p.header.cells

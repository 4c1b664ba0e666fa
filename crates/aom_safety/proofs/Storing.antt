-- The words of a cell count for no place, and its request for the age of objects alone: where these change, what is claimed holds on.
use Rattle.std.proofs.lemmas.Bool.Decides.{nat_tests}
use Rattle.std.specs.Prelude.{is_some}
use Rattle.aom_safety.proofs.SemanticsLemmas.{Alters, asking, detaching, held_kept, named_kept, opening, read_here, read_kept, read_so, read_there}
use Rattle.aom_safety.proofs.SemanticsLemmas.{requested_unnamed, requests, services, storing, tidy_kept}
use Rattle.aom_safety.proofs.ImageLemmas.{some_given}
use Rattle.aom_safety.proofs.Services.{attended_kept, sessions_kept}
use Rattle.aom_safety.proofs.OwnedObjects.{first_kept}
use Rattle.std.proofs.Common.{arith, Bool, List, Option, Some, [], ap, cond, false, refl, true, ℕ, ℤ, ◌==◌, ◌∙◌, ◌∷◌, ◌≡◌, None}
use Rattle.aom_image.specs.Image.{Image}
use Rattle.aom_abstract_state.specs.Kinds.{is_ready_kind}
use Rattle.aom_abstract_state.specs.AbstractState.{AbstractState}
use Rattle.aom_typing_rules.specs.Typing.{Typing}
use Rattle.aom_safety.proofs.Claimed.{claim_rel, fits_age}
use Rattle.aom_safety.proofs.Straight.{Fitted}
use Rattle.aom_safety.specs.Claims.{Dispatching, Dying, Layer, Mark, Method, Unwinding, claim, declared, Ending}
use Rattle.aom_semantics.specs.Places.{Service, Cell, Object, Place, Request, NoDuplicates, held, named, requested, seen, set_request, set_word_field, service_of}
use Rattle.aom_semantics.specs.State.{Frame, Receiver, Inside, OwnedObject}
use Rattle.aom_safety.specs.WellTyped.{IsOwnedChain, Back, Fits, ReceiverIsHeld, Stack}
use Rattle.aom_semantics.specs.Words.{stored}
use Rattle.std.proofs.lemmas.Bool.{eqb-true}
use Rattle.aom_semantics.specs.Requests.{ended_cells, on_request, own_request, request_updated}
use Rattle.aom_semantics.specs.Natives.{all_detached, is_served_by, session_updated, terminated_request}

-- the same cells in the same places
pub record Alike (cs cs' : List Cell) : Type 0 where
  pub held_so : (r : Place) → held cs' r ≡ held cs r
  pub named_so : (n : ℕ) → named cs' n ≡ named cs n
  pub queues_so : (n : ℕ) → (service_of cs' n).queue ≡ (service_of cs n).queue
  pub sessions_so : (n : ℕ) → (service_of cs' n).sessions ≡ (service_of cs n).sessions
  pub no_duplicates : NoDuplicates cs → NoDuplicates cs'

-- each is changed by itself, and stays in its place and for its clients
pub altered_alike : {change : List Cell → List Cell} (a : Alters change) →
    ((c : Cell) → (a.each c).owner ≡ c.owner) → ((c : Cell) → (a.each c).service ≡ c.service) → (cs : List Cell) → Alike cs (change cs)
altered_alike a stays serves cs = record {
  held_so = held_kept a stays cs;
  named_so = named_kept a cs;
  queues_so = λ n. ap (λ (v : Service). v.queue) (read_kept a services serves cs n);
  sessions_so = λ n. ap (λ (v : Service). v.sessions) (read_kept a services serves cs n);
  no_duplicates = tidy_kept a stays cs;
}

pub held_set_word : (cs : List Cell) (n w : ℕ) (v : ℤ) (r : Place) → held (set_word_field n w v cs) r ≡ held cs r
held_set_word cs n w v = held_kept (storing n w v) (λ c. refl) cs

pub named_set_word : (cs : List Cell) (n w : ℕ) (v : ℤ) (m : ℕ) → named (set_word_field n w v cs) m ≡ named cs m
named_set_word cs n w v = named_kept (storing n w v) cs

pub requested_set_word : (cs : List Cell) (n w : ℕ) (v : ℤ) (m : ℕ) → requested (set_word_field n w v cs) m ≡ requested cs m
requested_set_word cs n w v = read_kept (storing n w v) requests (λ c. refl) cs

pub alike_itself : (cs : List Cell) → Alike cs cs
alike_itself cs = record { held_so = λ r. refl; named_so = λ n. refl; queues_so = λ n. refl; sessions_so = λ n. refl; no_duplicates = λ t. t }

stored_alike : (cs : List Cell) (receiver : Receiver) (w : ℕ) (v : ℤ) → Alike cs (stored cs receiver w v)
stored_alike cs (Inside o from) w v = altered_alike (storing o.name w v) (λ c. refl) (λ c. refl) cs
stored_alike cs _ w v = alike_itself cs

stored_requests : (cs : List Cell) (receiver : Receiver) (w : ℕ) (v : ℤ) (n : ℕ) → requested (stored cs receiver w v) n ≡ requested cs n
stored_requests cs (Inside o from) w v n = read_kept (storing o.name w v) requests (λ c. refl) cs n
stored_requests cs _ w v n = refl

-- the cells with another request of one of them
pub requested_here : (cs : List Cell) (n : ℕ) (r : Option Request) (o : Object) → named cs n ≡ Some o → requested (set_request n r cs) n ≡ r
requested_here cs n r = read_here (asking n r) requests n r (λ c. refl) cs

pub requested_there : (cs : List Cell) (n m : ℕ) (r : Option Request) → (n == m) ≡ false → requested (set_request n r cs) m ≡ requested cs m
requested_there cs n m r = read_there (asking n r) requests n r (λ c. refl) cs m

pub on_some : (f : Request → Request) (r : Option Request) → is_some r ≡ true → is_some (on_request f r) ≡ true
on_some f r e = grind arith

-- what is enlisted stays so where another request is put in the place of one that there is
asked_some : (cs : List Cell) (n m : ℕ) (r : Option Request) → ((n == m) ≡ true → is_some r ≡ true) → is_some (requested cs m) ≡ true →
    is_some (requested (set_request n r cs) m) ≡ true
asked_some cs n m r h some = grind (arith, nat_tests, requested_there cs n m r, some_given, requested_unnamed cs m, eqb-true n m, requested_here cs m r)

pub set_listed : (cs : List Cell) (n : ℕ) (r : Option Request) → (is_some (requested cs n) ≡ true → is_some r ≡ true) → (m : ℕ) →
    is_some (requested cs m) ≡ true → is_some (requested (set_request n r cs) m) ≡ true
set_listed cs n r h m some = asked_some cs n m r (λ e. h (ap (λ k. is_some (requested cs k)) (eqb-true n m e) ∙ some)) some

pub listed_still : (cs : List Cell) (receiver : Receiver) (r : Option Request) →
    (is_some (own_request cs receiver) ≡ true → is_some r ≡ true) → (m : ℕ) → is_some (requested cs m) ≡ true → is_some (requested (request_updated cs receiver r) m) ≡ true
listed_still cs x r h m some = grind (arith, nat_tests, set_listed cs)

pub request_updated_alike : (cs : List Cell) (receiver : Receiver) (r : Option Request) → Alike cs (request_updated cs receiver r)
request_updated_alike cs (Inside o from) r = altered_alike (asking o.name r) (λ c. refl) (λ c. refl) cs
request_updated_alike cs _ r = alike_itself cs

-- and the cells once a method is over
pub ended_alike : (p : Image) (fr : Frame) (cs : List Cell) → Alike cs (ended_cells p fr cs)
ended_alike p fr cs = grind (arith, nat_tests, request_updated_alike cs fr.receiver, alike_itself cs)

module _ (p : Image) (t : Typing) (cs cs' : List Cell) (alike : Alike cs cs') where
  declared_alike : (r : Place) → declared p cs' r ≡ declared p cs r
  declared_alike x = grind arith

  pub receiver_held_alike : (ls : List Layer) (receiver : Receiver) → ReceiverIsHeld p cs ls receiver → ReceiverIsHeld p cs' ls receiver
  receiver_held_alike ls x h = grind arith

  pub sits_alike : (xs : List OwnedObject) → IsOwnedChain cs xs → IsOwnedChain cs' xs
  sits_alike [] s = tt
  sits_alike (x ∷ xs) s = ((alike.held_so x.place ∙ s.0.0, alike.named_so x.object.name ∙ s.0.1, s.0.2, s.0.3), sits_alike xs s.1)

  -- where what is enlisted stays so
  module _ (listed : (n : ℕ) → is_some (requested cs n) ≡ true → is_some (requested cs' n) ≡ true) where
    pub stack_alike : (ls : List Layer) (back : Back) → Stack p t cs back ls → Stack p t cs' back ls
    stack_alike [] back s = s
    stack_alike (Method fr sh ∷ ls) back s = (s.0, s.1, receiver_held_alike ls fr.receiver s.2, s.3, stack_alike ls _ s.4)
    stack_alike (Mark gv ∷ ls) back s = (s.0, stack_alike ls _ s.1)
    stack_alike (Dying o ∷ ls) back s = ((alike.named_so o.name ∙ s.0.0, alike.held_so _ ∙ s.0.1), s.1, stack_alike ls _ s.2)
    stack_alike (Dispatching d owned_chain ∷ ls) back s =
        (s.0, s.1, sits_alike owned_chain s.2, grind (arith, nat_tests, first_kept), attended_kept p cs cs' alike.sessions_so d s.4)
    stack_alike (Ending o left ∷ ls) back s = (sessions_kept p cs cs' alike.named_so alike.sessions_so o left s.0, s.1, s.2, stack_alike ls _ s.3)
    stack_alike (Unwinding code es ∷ ls) back s = (s.0, stack_alike ls _ s.1)

  -- where what is claimed to be fresh has the request that it had
  pub fits_alike : (ls : List Layer) (r : Place) →
      ((x : Object) → held cs r ≡ Some x → is_ready_kind (claim p (declared p cs) ls r) ≡ false → requested cs' x.name ≡ requested cs x.name) →
      Fits p (seen cs) (held cs r) (claim p (declared p cs) ls r) → Fits p (seen cs') (held cs' r) (claim p (declared p cs') ls r)
  fits_alike ls r requests f = rw (claim_rel (λ x y. x ≡ y) (λ k. refl) p (declared p cs') (declared p cs) ls r (declared_alike r))
      (rw (alike.held_so r) (fits_age p (seen cs) (seen cs') (held cs r) _ (λ x e fresh age. (λ f. alike.held_so _ ∙ age.0 f, requests x e fresh ∙ age.1)) f))

  -- or where what has none gets none
  pub fits_listed : (ls : List Layer) (r : Place) → ((x : Object) → requested cs x.name ≡ None → requested cs' x.name ≡ None) →
      Fits p (seen cs) (held cs r) (claim p (declared p cs) ls r) → Fits p (seen cs') (held cs' r) (claim p (declared p cs') ls r)
  fits_listed ls r none f = rw (claim_rel (λ x y. x ≡ y) (λ k. refl) p (declared p cs') (declared p cs) ls r (declared_alike r))
      (rw (alike.held_so r) (fits_age p (seen cs) (seen cs') (held cs r) _ (λ x e fresh age. (λ f. alike.held_so _ ∙ age.0 f, none x age.1)) f))

-- the cells with a session of one of them open or not
pub session_updated_alike : (cs : List Cell) (receiver : Receiver) (b : Bool) → Alike cs (session_updated cs receiver b)
session_updated_alike cs (Inside o from) b = altered_alike (opening o.name b) (λ c. refl) (λ c. refl) cs
session_updated_alike cs _ b = alike_itself cs

pub session_updated_requests : (cs : List Cell) (receiver : Receiver) (b : Bool) (n : ℕ) → requested (session_updated cs receiver b) n ≡ requested cs n
session_updated_requests cs (Inside o from) b n = read_kept (opening o.name b) requests (λ c. refl) cs n
session_updated_requests cs _ b n = refl

-- other cells in the same places, with the same requests
pub alike_fitted : (p : Image) (t : Typing) (cs cs' : List Cell) →
    Alike cs cs' → ((n : ℕ) → requested cs' n ≡ requested cs n) → (fr : Frame) (sh : AbstractState) (ls : List Layer) → Fitted p t cs fr sh ls → Fitted p t cs' fr sh ls
alike_fitted p t cs cs' alike requests fr sh ls g = record {
  fits = λ r. fits_alike p t cs cs' alike (Method fr sh ∷ ls) r (λ x e fresh. requests x.name) (g.fits r);
  conforms_to = grind (arith, nat_tests, requests);
  no_duplicates = alike.no_duplicates g.no_duplicates;
  frames = g.frames;
  receiver_held = receiver_held_alike p t cs cs' alike ls fr.receiver g.receiver_held;
  apart = g.apart;
  stack = stack_alike p t cs cs' alike (λ n some. ap is_some (requests n) ∙ some) ls _ g.stack;
}

-- a session is open or not
pub sessioned_fitted : (p : Image) (t : Typing) (cs : List Cell) (receiver : Receiver) (b : Bool) (fr : Frame) (sh : AbstractState) (ls : List Layer) →
    Fitted p t cs fr sh ls → Fitted p t (session_updated cs receiver b) fr sh ls
sessioned_fitted p t cs receiver b = alike_fitted p t cs (session_updated cs receiver b) (session_updated_alike cs receiver b) (session_updated_requests cs receiver b)

-- a word is stored
pub stored_fitted : (p : Image) (t : Typing) (cs : List Cell) (receiver : Receiver) (w : ℕ) (v : ℤ) (fr : Frame) (sh : AbstractState) (ls : List Layer) →
    Fitted p t cs fr sh ls → Fitted p t (stored cs receiver w v) fr sh ls
stored_fitted p t cs receiver w v = alike_fitted p t cs (stored cs receiver w v) (stored_alike cs receiver w v) (stored_requests cs receiver w v)

-- a cell with another request and another session perhaps
abbrev pub reset : (Cell → Option Request) → (Cell → Bool) → Cell → Cell
reset f g c = record c { request = f c; session = g c }

-- what a native that is killed leaves behind
pub detached_alike : (p : Image) (n : ℕ) (cs : List Cell) → Alike cs (all_detached p n cs)
detached_alike p n cs = altered_alike (detaching p n) (λ c. refl) (λ c. refl) cs

pub requested_detached : (p : Image) (n : ℕ) (cs : List Cell) (o : Object) → named cs o.name ≡ Some o →
    requested (all_detached p n cs) o.name ≡ cond (is_served_by p n o.thing) (terminated_request (requested cs o.name)) (requested cs o.name)
requested_detached p n cs o e = read_so (detaching p n) requests o.name (λ r. cond (is_served_by p n o.thing) (terminated_request r) r) cs
    (λ c is here. let same : c.object ≡ o = cc in ap (λ x. cond (is_served_by p n x.thing) (terminated_request c.request) c.request) same) (λ none. cc)

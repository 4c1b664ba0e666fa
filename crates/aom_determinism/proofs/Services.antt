-- Servers, sessions and messages change nothing that is outstanding, and no session with a native: no native serves a message, and the rest of each cell is as
-- it was.
use Rattle.std.proofs.lemmas.Bool.Decides.{nat_tests}
use Rattle.std.proofs.Common.{Bool, List, None, Option, Some, [], ap, cond, false, refl, subst, sym, true, ℕ, ℤ, ◌&&◌, ◌==◌, ◌∙◌, ◌∷◌, ◌≡◌, arith}
use Rattle.std.proofs.lemmas.Bool.{and_parts}
use Rattle.aom_clients.specs.declared.client.Client.{Client}
use Rattle.aom_clients.specs.declared.refusal.CommandRefusal.{CommandRefusal}
use Rattle.aom_image.specs.Image.{Image}
use Rattle.aom_image.specs.declared.method.Thing.{Thing}
use Rattle.aom_image.specs.declared.method.Thing.TheVariants.{Message}
use Rattle.aom_determinism.proofs.Cells.{Unchanged, unchanged_alike, unchanged_along, unchanged_itself, unchanged_new}
use Rattle.aom_determinism.specs.Owed.{meets, owes, serves, serves_object}
use Rattle.aom_roles.specs.Shapes.{kind_of}
use Rattle.aom_typing_rules.specs.Typing.{Typing}
use Rattle.aom_determinism.proofs.SafetyLemmas.{a_cell_of, cell_in, cell_in_filtered_cells, cell_lives, cell_of, cell_of_filtered_cells, cell_owner, cell_placed, held_cell}
use Rattle.aom_determinism.proofs.SafetyLemmas.{kept, named_cell, named_served, object_in, queued_claim, request_in, requested_cell, requested_served, filtered_cells}
use Rattle.aom_determinism.proofs.SafetyLemmas.{tidy_filtered_cells, unqueued_so, slot_released_so, waits_message, withdrawn_so}
use Rattle.aom_determinism.proofs.SemanticsLemmas.{same_place-true}
use Rattle.aom_safety.specs.Claims.{Layer}
use Rattle.aom_transcript.specs.declared.event.ClientCommand.{ClientCommand}
use Rattle.aom_semantics.specs.Clients.{commanded, each_slot_released, leaving, sending}
use Rattle.aom_semantics.specs.Natives.{is_owed, is_served_by}
use Rattle.aom_semantics.specs.Places.{Cell, Going, Object, Place, Service, NoDuplicates, held, in_session, named, same_place, set_service, without}
use Rattle.aom_semantics.specs.Servers.{is_from, is_queue, is_queue_of, without_queue, withdrawn}
use Rattle.aom_semantics.specs.State.{State}
use Rattle.aom_safety.specs.WellTyped.{Good}

-- ---- a cell has what it had

session_served : (cs : List Cell) (n : ℕ) (v : Service) (m : ℕ) → in_session (set_service n v cs) m ≡ in_session cs m
session_served [] n v m = refl
session_served (c ∷ cs) n v m = ap (λ x. cond (c.object.name == m) c.session x) (session_served cs n v m)

pub unchanged_served : (p : Image) (cs : List Cell) (n : ℕ) (v : Service) → Unchanged p cs (set_service n v cs)
unchanged_served p cs n v = grind (arith, nat_tests, unchanged_alike, named_served, requested_served, session_served)

-- ---- some cells go, which are messages

abbrev session_in : Option Cell → Bool
session_in None = false
session_in (Some c) = c.session

session_cell : (cs : List Cell) (n : ℕ) → in_session cs n ≡ session_in (cell_of cs n)
session_cell [] n = refl
session_cell (c ∷ cs) n = grind (arith, session_cell cs n)

unserved_message : (p : Image) (k : ℕ) (x : Thing) → x ≡ Message → is_served_by p k x ≡ false
unfolding kind_of
unserved_message p k x e = ap (λ t. is_served_by p k t) e

module _ (p : Image) (k : ℕ) where
  abbrev serves_in : Option Cell → Bool
  serves_in x = serves_object p k (object_in x)

  serves_cell : (cs : List Cell) (m : ℕ) → serves p cs k m ≡ serves_in (cell_of cs m)
  serves_cell cs m = ap (λ o. serves_object p k o) (named_cell cs m)

  owes_cell : (cs : List Cell) (m : ℕ) → owes p cs k m ≡ (serves_in (cell_of cs m) && is_owed (request_in (cell_of cs m)))
  owes_cell cs m = grind (arith, nat_tests, serves_cell cs m, cell_of cs m, requested_cell cs m)

  meets_cell : (cs : List Cell) (m : ℕ) → meets p cs k m ≡ (serves_in (cell_of cs m) && session_in (cell_of cs m))
  meets_cell cs m = ap (λ b. b && in_session cs m) (serves_cell cs m) ∙ ap (λ b. serves_in (cell_of cs m) && b) (session_cell cs m)

-- what goes is no cell of a native
abbrev pub DropsMessages : (Cell → Bool) → List Cell → Type 0
DropsMessages drops cs = (c : Cell) → cell_in cs c.owner ≡ Some c → drops c ≡ true → c.object.thing ≡ Message

module _ (p : Image) (drops : Cell → Bool) (f : Cell → Service) (cs : List Cell) (no_duplicates : NoDuplicates cs) (messages : DropsMessages drops cs) where
  by_cell : (k m : ℕ) (f' : Option Cell → Bool) → ((c : Cell) → f' (Some (record c { service = f c })) ≡ f' (Some c)) →
      ((c : Cell) → is_served_by p k c.object.thing ≡ false → f' None ≡ f' (Some c)) → f' (cell_of (filtered_cells drops f cs) m) ≡ f' (cell_of cs m)
  by_cell k m test stays goes = grind (arith, nat_tests, cell_of_filtered_cells drops f cs m no_duplicates, cell_of cs m, kept drops f, unserved_message p k, cell_placed cs m)

  pub serves_filtered_cells : (k m : ℕ) → serves p (filtered_cells drops f cs) k m ≡ serves p cs k m
  serves_filtered_cells k m = serves_cell p k (filtered_cells drops f cs) m ∙ by_cell k m (λ x. serves_in p k x) (λ c. refl) (λ c e. sym e) ∙ sym (serves_cell p k cs m)

  pub unchanged_filtered_cells : Unchanged p cs (filtered_cells drops f cs)
  unchanged_filtered_cells = record {
    owes = λ k m. owes_cell p k (filtered_cells drops f cs) m
        ∙ by_cell k m (λ x. serves_in p k x && is_owed (request_in x)) (λ c. refl) (λ c e. sym (ap (λ b. b && is_owed c.request) e)) ∙ sym (owes_cell p k cs m);
    meets = λ k m. meets_cell p k (filtered_cells drops f cs) m
        ∙ by_cell k m (λ x. serves_in p k x && session_in x) (λ c. refl) (λ c e. sym (ap (λ b. b && c.session) e)) ∙ sym (meets_cell p k cs m);
  }

  -- a cell that stays has its session
  pub session_filtered_cells : (c : Cell) (m : ℕ) → cell_of cs m ≡ Some c → drops c ≡ false → in_session (filtered_cells drops f cs) m ≡ in_session cs m
  session_filtered_cells c m at stays =
      grind (arith, nat_tests, session_cell (filtered_cells drops f cs) m, filtered_cells drops f cs, cell_of_filtered_cells drops f cs m no_duplicates, kept drops f, session_cell cs m)

-- ---- which cells these are

-- what waits in a queue is a message
module _ (p : Image) (t : Typing) (cs : List Cell) (ls : List Layer) (good : Good p t cs ls) where
  queue_message : (r : Place) (x : Object) → is_queue r ≡ true → held cs r ≡ Some x → x.thing ≡ Message
  queue_message r x e there = grind (arith, waits_message, queued_claim)

  in_place : (c : Cell) → cell_in cs c.owner ≡ Some c → held cs c.owner ≡ Some c.object
  in_place c at = held_cell cs c.owner ∙ ap object_in at

  -- the queue of a server goes
  queue_drops : (n : ℕ) → DropsMessages (λ c. is_queue_of n c.owner) cs
  queue_drops n c at e = queue_message c.owner c.object (grind arith) (in_place c at)

  pub unchanged_unqueued : (n : ℕ) → Unchanged p cs (without_queue n cs)
  unchanged_unqueued n = grind (arith, nat_tests, Unchanged p cs, unqueued_so n cs, unchanged_filtered_cells p, queue_drops n)

  pub serves_unqueued : (n k m : ℕ) → serves p (without_queue n cs) k m ≡ serves p cs k m
  serves_unqueued n k m = grind (arith, nat_tests, unqueued_so n cs, serves_filtered_cells p, queue_drops n)

  pub tidy_unqueued : (n : ℕ) → NoDuplicates (without_queue n cs)
  tidy_unqueued n = subst NoDuplicates (sym (unqueued_so n cs)) (tidy_filtered_cells (λ c. is_queue_of n c.owner) (λ c. c.service) cs good.no_duplicates)

  -- what is going stays, with its session
  module _ (n k : ℕ) (o : Object) (there : held cs (Going k) ≡ Some o) where
    cell : (c : Cell) × (cell_in cs (Going k) ≡ Some c) × (c.object ≡ o)
    cell = a_cell_of (cell_in cs (Going k)) o (sym (held_cell cs (Going k)) ∙ there)

    stays : is_queue_of n cell.0.owner ≡ false
    stays = ap (is_queue_of n) (cell_owner cs (Going k) cell.0 cell.1)

    pub going_unqueued : held (without_queue n cs) (Going k) ≡ Some o
    going_unqueued = grind (arith, nat_tests, unqueued_so n cs, held_cell, filtered_cells, object_in, cell_in_filtered_cells, kept, stays)

    pub session_unqueued : in_session (without_queue n cs) o.name ≡ in_session cs o.name
    session_unqueued =
        grind (arith, nat_tests, unqueued_so n cs, session_filtered_cells p, queue_drops n, cell_of cs, cell_lives cs (Going k) cell.0 good.no_duplicates cell.1, stays)

  -- a message goes from its place
  pub unchanged_completed : (q : Place) → ((x : Object) → held cs q ≡ Some x → x.thing ≡ Message) → Unchanged p cs (without q cs)
  unchanged_completed q message = rw (without_so cs) (unchanged_filtered_cells p (λ c. same_place c.owner q) (λ c. c.service) cs good.no_duplicates drops)
    where
      without_so : (cs : List Cell) → without q cs ≡ filtered_cells (λ c. same_place c.owner q) (λ c. c.service) cs
      without_so [] = refl
      without_so (c ∷ cs) = ap (λ l. cond (same_place c.owner q) l (c ∷ l)) (without_so cs)

      drops : DropsMessages (λ c. same_place c.owner q) cs
      drops c at e = message c.object (ap (λ r. held cs r) (sym (same_place-true c.owner q e)) ∙ in_place c at)

  pub unchanged_withdrawn : (client : ℕ) → Unchanged p cs (withdrawn client cs)
  unchanged_withdrawn client = rw (withdrawn_so client cs) (unchanged_filtered_cells p _ _ cs good.no_duplicates
      (λ c at e. queue_message c.owner c.object (and_parts (is_queue c.owner) (is_from client c.service.sender) e).0 (in_place c at)))

-- messages hold no slot any more
pub unchanged_slot_released : (p : Image) (clients : List ℕ) (cs : List Cell) → NoDuplicates cs → Unchanged p cs (each_slot_released clients cs)
unchanged_slot_released p [] cs no_duplicates = unchanged_itself p cs
unchanged_slot_released p (c ∷ clients) cs no_duplicates =
    grind (arith, nat_tests, unchanged_along p cs, Unchanged p cs, slot_released_so c cs, unchanged_filtered_cells p, unchanged_slot_released p clients, tidy_filtered_cells)

-- ---- a client's command

module _ (p : Image) (t : Typing) (s : State) (ls : List Layer) (good : Good p t s.cells ls) (client name : ℕ) (unused : named s.cells name ≡ None) where
  sending_same : (refused : Option CommandRefusal) (c : Client) (words : List ℤ) → Unchanged p s.cells (sending p client s refused c name words).cells
  sending_same x y words = grind (
    arith,
    nat_tests,
    unchanged_along p s.cells,
    unchanged_served p s.cells,
    Unchanged p,
    unchanged_new p name Message words,
    named_served s.cells,
    unchanged_itself p s.cells,
  )

  leaving_same : (to : Option Client) → Unchanged p s.cells (leaving p client s to).cells
  leaving_same x = grind (
    arith,
    nat_tests,
    unchanged_itself p s.cells,
    unchanged_along p s.cells,
    unchanged_withdrawn p t s.cells ls good client,
    Unchanged p,
    unchanged_served p,
    unchanged_itself p,
  )

  pub unchanged_commanded : (command : ClientCommand) → Unchanged p s.cells (commanded p client s command name).cells
  unchanged_commanded x = grind (arith, nat_tests, unchanged_served, unchanged_itself, sending_same, leaving_same)

-- it kills no native
module _ (p : Image) (s : State) (client name : ℕ) where
  leaving_killed : (to : Option Client) → (leaving p client s to).killed ≡ s.killed
  leaving_killed x = grind arith

  pub commanded_killed : (command : ClientCommand) → (commanded p client s command name).killed ≡ s.killed
  commanded_killed x = grind (arith, nat_tests, leaving_killed)

-- The instruction that enlists its object: an active object, or a server, which is the last of its class from then on.
use Rattle.std.proofs.lemmas.Bool.Decides.{nat_tests}
use Rattle.std.proofs.Common.{Bool, List, None, Option, Some, [], ap, arith, cond, false, inl, inr, length, refl}
use Rattle.std.proofs.Common.{slice_index_or, subst, sym, true, ℕ, ℤ, ◌&&◌, ◌++◌, ◌<◌, ◌==◌, ◌∙◌, ◌∷◌, ◌≡◌}
use Rattle.std.specs.Prelude.{is_some, ◌||◌}
use Rattle.std.proofs.lemmas.Bool.{eq-eqb, eqb-true, false≢true}
use Rattle.std.proofs.lemmas.List.Folds.{list_any_at}
use Rattle.aom_machine_instructions.proofs.ActiveObjectsLemmas.{asked_set, newest}
use Rattle.aom_active_objects.specs.Agrees.{Active, queued}
use Rattle.aom_active_objects.specs.Meanings.{Enlists}
use Rattle.aom_cells.specs.Heap.{Lives, class_at}
use Rattle.aom_image.specs.Image.{Image}
use Rattle.aom_image.specs.declared.method.Thing.TheVariants.{Object as An_object_of}
use Rattle.aom_instructions.specs.declared.instr.Instr.TheVariants.{Enlist}
use Rattle.aom_clients.specs.Lists.{IsFree, IsIn, Table, list_at, with_list}
use Rattle.aom_roles.specs.Classes.{sessions_in}
use Rattle.aom_machine_instructions.proofs.SafetyLemmas.{requested_here, requested_there, request_updated_alike, service_asked}
use Rattle.aom_scheduler.specs.Requests.{request_at}
use Rattle.aom_semantics.specs.Clients.{is_of_class}
use Rattle.aom_semantics.specs.Requests.{first_request, receiver_kind, next_order, request_updated}
use Rattle.aom_semantics.specs.Places.{Cell, Object, Register, Request, Service, NoDuplicates, named, requested, set_request}
use Rattle.aom_semantics.specs.Servers.{is_among, is_server}
use Rattle.aom_semantics.specs.State.{Inside}
use Rattle.aom_semantics.specs.Tokens.{awaited}
use Rattle.aom_machine_instructions.proofs.MachineStateLemmas.{listed_last, messages_asked, same_still, still_requested, tokens_still}
use Rattle.aom_machine_state.specs.Serving.{message_name}
use Rattle.aom_machine_state.specs.Tokens.{SameTokens}
use Rattle.aom_machine_state.specs.Fields.{this}
use Rattle.aom_machine_state.specs.Listing.{SameListed, is_listed, lists, order_in}
use Rattle.aom_machine_state.specs.Places as places
use Rattle.aom_machine_state.specs.Services.{SameServices}
use Rattle.aom_machine_state.specs.declared.parts.Parts.{Parts}
use Rattle.aom_machine_instructions.specs.Acts.{CurrentFrame, DoesIn}
use Rattle.aom_machine_instructions.specs.Going.{is_server_class}
use Rattle.aom_machine_instructions.specs.Next.{IsNext}
use Rattle.aom_machine_instructions.proofs.GoingActs.{thing_is}
use Rattle.aom_machine_instructions.proofs.ReceiverHolding.{has_task, needs_met}
use Rattle.aom_machine_instructions.proofs.RequestActs.{OnObject, asks_on, finds_cell, finds_object, fresh_reported, kind_reported, named_here}
use Rattle.aom_machine_instructions.proofs.RequestActs.{on_object, own_reported, requests_enlisted, thing_here}
use Rattle.aom_machine_instructions.proofs.Running.{free}
use Rattle.aom_machine_instructions.proofs.WordActs.{plain_in}

-- ---- the lists of servers, as an object is enlisted

module _ (p : Image) (t : Table) (cs : List Cell) (o : Object) (r : Request) (lives : named cs o.name ≡ Some o) (fresh : requested cs o.name ≡ None) where
  abbrev pub then : List Cell
  then = set_request o.name (Some r) cs

  names : (n : ℕ) → named then n ≡ named cs n
  names n = (request_updated_alike cs (Inside o (Register 0 0)) (Some r)).named_so n

  here : requested then o.name ≡ Some r
  here = requested_here cs o.name (Some r) o lives

  there : (n : ℕ) → (o.name == n) ≡ false → requested then n ≡ requested cs n
  there n other = requested_there cs o.name n (Some r) other

  listed_there : (n k : ℕ) → (o.name == n) ≡ false → is_listed p then k n ≡ is_listed p cs k n
  listed_there n k other = ap (λ x. lists p k x (requested then n)) (names n) ∙ ap (lists p k (named cs n)) (there n other)

  not_listed : (k : ℕ) → is_listed p cs k o.name ≡ false
  not_listed k = ap (λ x. lists p k x (requested cs o.name)) lives ∙ ap (lists p k (Some o)) fresh

  now_listed : (k : ℕ) → is_listed p then k o.name ≡ (is_server p o.thing && is_of_class k o.thing)
  now_listed k = ap (λ x. lists p k x (requested then o.name)) (names o.name ∙ lives) ∙ ap (lists p k (Some o)) here

  -- what is listed is another
  unlike : (n k : ℕ) → is_listed p cs k n ≡ true → (o.name == n) ≡ false
  unlike n k listed = grind (arith, nat_tests, not_listed k, eqb-true o.name n)

  -- an active object is in none
  pub listed_plain : is_server p o.thing ≡ false → SameListed p t cs → SameListed p t then
  listed_plain plain same = record {
    there = λ n k. same.there n k ∙ sym (all n k (o.name == n) refl);
    order = λ k i j d less within.
        let first = orders (slice_index_or (list_at t k) i d) k (among k i d (omega (arith, less, within))) in
        let second = orders (slice_index_or (list_at t k) j d) k (among k j d within) in
        omega (arith, same.order k i j d less within, first, second);
    classes = same.classes;
    nodes = same.nodes;
  }
    where
      all : (n k : ℕ) (b : Bool) → (o.name == n) ≡ b → is_listed p then k n ≡ is_listed p cs k n
      all n k true e = grind (arith, nat_tests, eqb-true o.name n e, now_listed k, not_listed k)
      all n k false e = listed_there n k e

      among : (k i d : ℕ) → i < length (list_at t k) → is_listed p cs k (slice_index_or (list_at t k) i d) ≡ true
      among k i d within = grind (arith, nat_tests, list_any_at, eq-eqb)

      orders : (n k : ℕ) → is_listed p cs k n ≡ true → order_in (requested then n) ≡ order_in (requested cs n)
      orders n k listed = ap order_in (there n (unlike n k listed))

  -- and a server is the last of its class
  pub listed_server : (class : ℕ) → is_server p o.thing ≡ true → o.thing ≡ An_object_of class →
      class < 256 → NoDuplicates cs → r.order ≡ next_order cs → SameListed p t cs → SameListed p (with_list class (list_at t class ++ o.name ∷ []) t) then
  listed_server class serves is small no_duplicates order same = listed_last p t cs then o.name class small not_listed
      (λ k. now_listed k ∙ ap (λ b. b && is_of_class k o.thing) serves ∙ ap (is_of_class k) is) listed_there (λ n other. ap order_in (there n other)) last same
    where
      after : (n : ℕ) (x : Option Object) (q : Option Request) → requested cs n ≡ q → lists p class x q ≡ true → order_in q < next_order cs
      after n (Some x) (Some q) e listed = newest cs no_duplicates n q e
      after n _ _ e listed = absurd (false≢true listed)

      last : (n : ℕ) → is_listed p cs class n ≡ true → order_in (requested cs n) < order_in (requested then o.name)
      last n listed = let less = after n (named cs n) (requested cs n) refl listed in omega (arith, less, ap order_in here, order)

-- ---- what is in no list

among_in : (ns : List ℕ) (n : ℕ) → IsIn n ns → is_among n ns ≡ true
among_in [] n within = absurd within
among_in (k ∷ ns) n (inl e) = ap (λ b. b || is_among n ns) (eq-eqb k n e)
among_in (k ∷ ns) n (inr rest) = grind (arith, nat_tests, among_in ns n rest)

module _ (p : Image) (m : Parts) where
  pub enlist_lives : (priority : ℤ) → IsNext p (Enlist priority) m → Lives m.cells (this m)
  enlist_lives priority next = finds_cell p m (Enlist priority) next (λ c fr ts s n. n.0)

  -- it is not enlisted yet
  pub enlist_fresh : (priority : ℤ) → IsNext p (Enlist priority) m → request_at m.active.table (this m) ≡ None
  enlist_fresh priority next = grind (arith, nat_tests, needs_met p m (Enlist priority) next, finds_object p m (Enlist priority) next, fresh_reported p, free)

pub enlist_free : (p : Image) (m : Parts) (priority : ℤ) → IsNext p (Enlist priority) m → IsFree m.listed (this m)
unfolding has_task
enlist_free p m priority next =
    let n = needs_met p m (Enlist priority) next in
    let x = finds_object p m (Enlist priority) next (λ c fr ts s n. n.0) in
    let none = sym (own_reported p _ _ x) ∙ free _ n.1.1.0 in
    record {
      nowhere = λ k within. false≢true (sym (next.stands.1.agrees.services.listed.there (this m) k ∙ ap (λ o. lists p k o (requested next.stands.0.cells (this m)))
          (named_here p _ _ x) ∙ ap (lists p k (Some x.object)) none) ∙ among_in (list_at m.listed k) (this m) within);
    }

-- ---- the instruction

module _ (p : Image) (m : Parts) (h : CurrentFrame p m) (x : OnObject p m h) (priority : ℤ) (fresh : requested h.state.cells x.object.name ≡ None) where
  abbrev cs : List Cell
  cs = h.state.cells

  abbrev r : Request
  r = first_request cs priority

  serving_reported : is_server p x.object.thing ≡ is_server_class p (class_at m.cells (this m))
  serving_reported = ap (λ k. is_some (sessions_in k)) (sym (ap (receiver_kind p) x.receiver) ∙ kind_reported p m h x)

  -- what waits there, which is nothing
  queue_reported : (b : Bool) → is_server p x.object.thing ≡ b → queued p cs (this m) ≡ cond b (Some false) None
  queue_reported b e = grind (arith, nat_tests, named_here p m h x)

  services_enlisted : (t : Table) → (SameListed p m.listed cs → SameListed p t (set_request x.object.name (Some r) cs)) →
      SameServices p m.clients m.messages m.tokens t (request_updated cs h.frame.receiver (Some r)) h.state.clients
  services_enlisted t listed =
      let same = h.agrees.services in
      let ds = set_request x.object.name (Some r) cs in
      subst (λ receiver. SameServices p m.clients m.messages m.tokens t (request_updated cs receiver (Some r)) h.state.clients) (sym x.receiver) (record {
        clients = same_still m.clients cs ds h.state.clients (still_requested cs x.object.name (Some r)) same.clients;
        sized = same.sized;
        messages = messages_asked p m.messages cs x.object.name (Some r) same.messages;
        tokens = tokens_enlisted;
        listed = listed same.listed;
      })
    where
      -- it waits for no token before and after
      tokens_enlisted : SameTokens p m.tokens (set_request x.object.name (Some r) cs)
      tokens_enlisted = tokens_still p m.tokens cs (set_request x.object.name (Some r) cs)
          (λ n. ap awaited (sym (asked_set cs x.object.name (Some r) (ap is_some x.lives) n)) ∙ go n (x.object.name == n) refl)
          (λ k. ap (λ (v : Service). v.token) (service_asked cs x.object.name (Some r) (message_name k))) h.agrees.services.tokens
        where
          go : (n : ℕ) (b : Bool) → (x.object.name == n) ≡ b → awaited (cond b (Some r) (requested cs n)) ≡ awaited (requested cs n)
          go n true e = sym (ap awaited (ap (requested cs) (sym (eqb-true x.object.name n e)) ∙ fresh))
          go n false e = refl

module _ (p : Image) (m : Parts) (refused : List ℕ) (a : Active) (priority : ℤ) where
  pub enlist_plain_does : is_server_class p (class_at m.cells (this m)) ≡ false →
      Enlists m.active a (this m) priority None → DoesIn p refused (Enlist priority) m (places.next (record m { active = a }))
  enlist_plain_does plain enlists = plain_in p m _ refused (Enlist priority) refl (λ h c met typed.
      let x = on_object p m h met.0 in
      let none = sym (own_reported p m h x ∙ ap (requested h.state.cells) x.number) ∙ free _ met.1.0 in
      let is = serving_reported p m h x priority none ∙ plain in
      asks_on p m h a m.tokens m.listed (Some (first_request h.state.cells priority))
      (requests_enlisted p m h x a priority None (queue_reported p m h x priority none false is) enlists) (services_enlisted p m h x priority none m.listed
      (listed_plain p m.listed h.state.cells x.object (first_request h.state.cells priority) x.lives none is)))

  pub enlist_server_does : (class : ℕ) →
      class_at m.cells (this m) ≡ Some class → is_server_class p (Some class) ≡ true → class < 256 → Enlists m.active a (this m) priority (Some false) →
      DoesIn p refused (Enlist priority) m (places.next (record m { active = a; listed = with_list class (list_at m.listed class ++ this m ∷ []) m.listed }))
  enlist_server_does class reported serves small enlists = plain_in p m _ refused (Enlist priority) refl (λ h c met typed.
      let x = on_object p m h met.0 in
      let none = sym (own_reported p m h x ∙ ap (requested h.state.cells) x.number) ∙ free _ met.1.0 in
      let is = serving_reported p m h x priority none ∙ ap (is_server_class p) reported ∙ serves in
      let thing = thing_is x.object.thing class _ reported (thing_here p m h x) in
      let t = with_list class (list_at m.listed class ++ this m ∷ []) m.listed in
      let listed = listed_server p m.listed h.state.cells x.object (first_request h.state.cells priority) x.lives none class is thing small h.typed.good.no_duplicates refl in
      asks_on p m h a m.tokens t (Some (first_request h.state.cells priority))
      (requests_enlisted p m h x a priority (Some false) (queue_reported p m h x priority none true is) enlists)
      (services_enlisted p m h x priority none t (λ same. subst (λ n. SameListed p (with_list class (list_at m.listed class ++ n ∷ []) m.listed)
      (set_request x.object.name (Some (first_request h.state.cells priority)) h.state.cells)) (sym x.number) (listed same))))

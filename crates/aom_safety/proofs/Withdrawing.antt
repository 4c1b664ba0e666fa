-- Between dispatches the cells that a client leaves as it closes or dies are well typed: its messages that wait go with their entries.
use Rattle.std.proofs.lemmas.Bool.Decides.{nat_tests}
use Rattle.std.proofs.Common.{arith, Bool, List, None, Option, Some, [], ap, cond, false, refl, subst, sym, true, ℕ, ◌&&◌, ◌==◌, ◌∙◌, ◌∷◌, ◌≡◌}
use Rattle.std.proofs.lemmas.Bool.{eq-eqb, true≢false}
use Rattle.std.specs.List.{list_any}
use Rattle.std.specs.Prelude.{filter, not, ◌||◌, ◌⊎◌}
use Rattle.aom_image.specs.Image.{Image}
use Rattle.aom_image.specs.declared.method.Thing.TheVariants.{Message}
use Rattle.aom_clients.specs.declared.client.Client.{Client}
use Rattle.aom_typing_rules.specs.Typing.{Typing}
use Rattle.aom_abstract_state.specs.Kinds.{filled}
use Rattle.aom_abstract_state.specs.declared.kind.FieldState.TheVariants.{Full}
use Rattle.aom_abstract_state.specs.declared.kind.Kind.{Kind}
use Rattle.aom_abstract_state.specs.declared.kind.Kind.TheVariants.{Null}
use Rattle.aom_safety.proofs.Claimed.{declared_ready}
use Rattle.aom_safety.proofs.ClientsLeave.{service_left}
use Rattle.aom_safety.proofs.SemanticsLemmas.{named_name}
use Rattle.aom_safety.proofs.Picking.{fits_ready}
use Rattle.aom_safety.proofs.Queues.{none_stays}
use Rattle.aom_safety.proofs.FilteredCells.{cell_in, cell_in_filtered_cells, cell_lives, cell_of, cell_of_filtered_cells, cell_owner, cell_placed, held_cell, kept, named_cell}
use Rattle.aom_safety.proofs.FilteredCells.{object_in, request_in, requested_cell, service_cell, service_in, filtered_cells, tidy_filtered_cells, withdrawn_so}
use Rattle.aom_safety.specs.Claims.{declared}
use Rattle.aom_safety.specs.Kept.{ClientsFit, is_message_of}
use Rattle.aom_semantics.specs.Places.{Asked, Cell, Close_of, Connect_of, Elsewhere, Message_of, Object, Place}
use Rattle.aom_semantics.specs.Places.{Queued, Sender, held, named, requested, seen, service_of}
use Rattle.aom_semantics.specs.Servers.{has_message, is_from, is_message, is_queue, is_server, left_by, message_thing, stays, withdrawn}
use Rattle.aom_safety.specs.WellTyped.{Fits, Good}
use Rattle.aom_safety.proofs.Things.{message_plain}

-- ---- what of a message stays in a queue

-- none, where all of that name are of the client
none_left : (c m : ℕ) (es : List Asked) → ((d : ℕ) → list_any (is_message_of d m) es ≡ true → d ≡ c) → list_any (λ e. is_message m e) (filter (stays c) es) ≡ false
none_left c m [] own = refl
none_left c m (Connect_of d ∷ es) own = grind (arith, nat_tests, none_left c m es own)
none_left c m (Close_of d ∷ es) own = none_left c m es own
none_left c m (Message_of d k ∷ es) own = go (stays c (Message_of d k)) refl (k == m) refl (none_left c m es (λ i h. own i (grind arith)))
  where
    go : (b : Bool) → stays c (Message_of d k) ≡ b → (x : Bool) → (k == m) ≡ x → list_any (λ e. is_message m e) (filter (stays c) es) ≡ false →
        list_any (λ e. is_message m e) (cond b (Message_of d k ∷ filter (stays c) es) (filter (stays c) es)) ≡ false
    go false s x e h = h
    go true s false e h = ap (λ b. b || list_any (λ e. is_message m e) (filter (stays c) es)) e ∙ h
    go true s true e h =
        let same : d ≡ c = own d (ap (λ b. b || list_any (is_message_of d m) es) (ap (λ b. b && (k == m)) (eq-eqb d d refl) ∙ e)) in
        absurd (true≢false (sym s ∙ ap not (eq-eqb d c same)))

-- it stays, where none of that name is of the client
stays_there : (c m : ℕ) (es : List Asked) → ((d : ℕ) → list_any (is_message_of d m) es ≡ true → (d == c) ≡ false) → list_any (λ e. is_message m e) es ≡ true →
    list_any (λ e. is_message m e) (filter (stays c) es) ≡ true
stays_there c m [] other h = h
stays_there c m (Connect_of d ∷ es) other h = grind (arith, nat_tests, stays_there c m es other h)
stays_there c m (Close_of d ∷ es) other h = stays_there c m es other h
stays_there c m (Message_of d k ∷ es) other h = grind (arith, nat_tests, stays_there c m es, eq-eqb d d)

from_same : (c d : ℕ) (x : Option Sender) → is_from c x ≡ true → is_from d x ≡ true → d ≡ c
from_same c d x h k = grind arith

from_apart : (c d : ℕ) (x : Option Sender) → is_from c x ≡ false → is_from d x ≡ true → (d == c) ≡ false
from_apart c d x h k = grind arith

-- ---- the cells

module _ (p : Image) (t : Typing) (clients : List Client) (cs : List Cell) (good : Good p t cs []) (fit : ClientsFit p clients cs) (c : ℕ)
    (message : (n m : ℕ) (o : Object) → held cs (Elsewhere (Queued n m)) ≡ Some o → o.thing ≡ Message) where
  abbrev drops : Cell → Bool
  drops x = is_queue x.owner && is_from c x.service.sender

  abbrev left : List Cell
  left = filtered_cells drops (λ x. left_by c x.service) cs

  abbrev after : Option Cell → Option Cell
  after x = kept drops (λ x. left_by c x.service) x

  waiting : (n m : ℕ) (o : Object) → held cs (Elsewhere (Queued n m)) ≡ Some o → is_server p o.thing ≡ false
  waiting n m o e = message_plain p o.thing (message n m o e)

  service_now : (n : ℕ) → ((service_of left n).queue ≡ filter (stays c) (service_of cs n).queue) × ((service_of left n).sessions ≡ (service_of cs n).sessions)
  service_now n = grind (arith, nat_tests, service_left p clients cs good.no_duplicates fit c waiting n, waiting n, withdrawn_so c cs)

  -- what is in no queue stays
  stays_held : (q : Place) → is_queue q ≡ false → held left q ≡ held cs q
  stays_held q apart = grind (arith, nat_tests, held_cell, object_in, cell_in_filtered_cells, cell_in, cell_owner)

  -- a name is of what it was, or was of a message that is gone
  abbrev IsNamed : ℕ → Type 0
  IsNamed n = ((named left n ≡ named cs n) × (requested left n ≡ requested cs n))
      ⊎ ((named left n ≡ None) × ((o : Object) × (named cs n ≡ Some o) × (o.thing ≡ Message)))

  goes_message : (n : ℕ) (x : Cell) → cell_of cs n ≡ Some x → drops x ≡ true → x.object.thing ≡ Message
  goes_message n x e goes = go x.owner refl goes
    where
      go : (q : Place) → x.owner ≡ q → (is_queue q && is_from c x.service.sender) ≡ true → x.object.thing ≡ Message
      go (Elsewhere (Queued k m)) at h = message k m x.object (grind (arith, nat_tests, held_cell, object_in, cell_placed))
      go _ at h = cc

  name_left : (n : ℕ) → IsNamed n
  name_left n = grind (arith, nat_tests, cell_of, object_in, named_cell, cell_of_filtered_cells, request_in, requested_cell, goes_message)

  base : (q : Place) → Fits p (seen left) (held cs q) (declared p cs q)
  base q = fits_ready p (seen cs) (seen left) (held cs q) (declared p cs q) (declared_ready p cs q) (good.fits q)

  -- a queue
  module _ (n m : ℕ) where
    abbrev q : Place
    q = Elsewhere (Queued n m)

    abbrev kind : Kind
    kind = filled (message_thing p (named cs n)) Full

    abbrev still : Bool
    still = list_any (λ e. is_message m e) (filter (stays c) (service_of cs n).queue)

    kind_now : declared p left q ≡ cond still kind Null
    kind_now = grind (arith, nat_tests, service_now n, name_left, message_plain)

    held_now : (x : Option Cell) → cell_in cs q ≡ x → held left q ≡ object_in (after x)
    held_now x e = held_cell left q ∙ ap object_in (cell_in_filtered_cells drops (λ x. left_by c x.service) cs q good.no_duplicates ∙ ap after e)

    was : (x : Option Cell) → cell_in cs q ≡ x → held cs q ≡ object_in x
    was x e = held_cell cs q ∙ ap object_in e

    -- nothing was there
    free_fits : (b : Bool) → has_message (service_of cs n) m ≡ b → Fits p (seen left) None (cond b kind Null) → Fits p (seen left) None (cond still kind Null)
    free_fits x e f = grind (arith, nat_tests, none_stays)

    -- a message was there, and goes or stays
    some_fits : (x : Cell) → cell_in cs q ≡ Some x →
        (g : Bool) → is_from c x.service.sender ≡ g → (b : Bool) → has_message (service_of cs n) m ≡ b → Fits p (seen left) (Some x.object) (cond b kind Null) →
        Fits p (seen left) (object_in (cond g None (Some (record x { service = left_by c x.service })))) (cond still kind Null)
    some_fits x e g from false has f = absurd f
    some_fits x e true from true has f = rw (none_left c m (service_of cs n).queue (λ d h. from_same c d x.service.sender from (sender d h))) tt
      where
        name : x.object.name ≡ m
        name = fit.names n m x.object (was (Some x) e)

        sender : (d : ℕ) → list_any (is_message_of d m) (service_of cs n).queue ≡ true → is_from d x.service.sender ≡ true
        sender d h = rw (service_cell cs m ∙ ap service_in (ap (λ k. cell_of cs k) (sym name) ∙ cell_lives cs q x good.no_duplicates e)) at (fit.senders n d m h)
    some_fits x e false from true has f = rw (stays_there c m (service_of cs n).queue (λ d h. from_apart c d x.service.sender from (sender d h)) has) f
      where
        name : x.object.name ≡ m
        name = fit.names n m x.object (was (Some x) e)

        sender : (d : ℕ) → list_any (is_message_of d m) (service_of cs n).queue ≡ true → is_from d x.service.sender ≡ true
        sender d h = rw (service_cell cs m ∙ ap service_in (ap (λ k. cell_of cs k) (sym name) ∙ cell_lives cs q x good.no_duplicates e)) at (fit.senders n d m h)

    queue_fits : Fits p (seen left) (held left q) (declared p left q)
    queue_fits = subst (λ k. Fits p (seen left) (held left q) k) (sym kind_now) (go (cell_in cs q) refl)
      where
        go : (x : Option Cell) → cell_in cs q ≡ x → Fits p (seen left) (held left q) (cond still kind Null)
        go None e = subst (λ y. Fits p (seen left) y (cond still kind Null)) (sym (held_now None e))
            (free_fits (has_message (service_of cs n) m) refl (subst (λ y. Fits p (seen left) y (declared p cs q)) (was None e) (base q)))
        go (Some x) e = subst (λ y. Fits p (seen left) y (cond still kind Null)) (grind (arith, nat_tests, held_now (Some x) e, object_in, cell_owner cs))
            (some_fits x e (is_from c x.service.sender) refl (has_message (service_of cs n) m) refl (grind (arith, nat_tests, was (Some x) e, base)))

  fits : (q : Place) → Fits p (seen left) (held left q) (declared p left q)
  fits r = grind (arith, nat_tests, stays_held, base, name_left, service_now, named_name, message_plain, queue_fits)

  pub good_withdrawn : Good p t (withdrawn c cs) []
  good_withdrawn = search (arith, nat_tests, withdrawn_so c cs, fits, name_left, tidy_filtered_cells)

-- Tokens: one is handed out for the request of the method's object, and one is replied to, which completes the request that waits for it.
use Rattle.std.proofs.lemmas.Bool.Decides.{nat_tests}
use Rattle.std.proofs.Common.{[], Bool, List, None, Option, Some, ap, arith, cond, false, length, refl, subst}
use Rattle.std.proofs.Common.{sym, true, ℕ, ℤ, ◌+◌, ◌++◌, ◌<◌, ◌≤◌, ◌∙◌, ◌∷◌, ◌≡◌, inl, inr, append-nil}
use Rattle.std.specs.Prelude.{IfSome, IsTrue, is_some}
use Rattle.std.proofs.lemmas.Bool.{eq-eqb, le-leb, lt-leb}
use Rattle.std.proofs.lemmas.Option.{none-some}
use Rattle.std.specs.Int.{w32, cast_signed}
use Rattle.aom_active_objects.specs.Agrees.{Active, RefinesRequests, queued}
use Rattle.aom_active_objects.specs.Meanings.{asked_anew}
use Rattle.aom_machine_instructions.proofs.ActiveObjectsLemmas.{held_state}
use Rattle.aom_cells.specs.Heap.{Lives, cell_at, class_at as class_of_cell, null}
use Rattle.aom_frames.specs.Tasks.{on_top, register_here, with_register}
use Rattle.aom_image.specs.Image.{Image}
use Rattle.aom_image.specs.declared.class.ClassKind.{ClassKind}
use Rattle.aom_image.specs.declared.method.Thing.TheVariants.{Message}
use Rattle.aom_instructions.specs.declared.instr.Instr.TheVariants.{Hand, Reply}
use Rattle.aom_roles.specs.Tests.{AllTrue}
use Rattle.aom_machine_state.specs.LineBuffer.{LineBuffer}
use Rattle.aom_cells.specs.Store.{Changes, Store, count, first_number, message_at}
use Rattle.aom_scheduler.specs.Requests.{is_pending, request_at, state_at}
use Rattle.aom_roles.specs.Tables.{set_extending}
use Rattle.aom_machine_instructions.proofs.SafetyLemmas.{active_listed, awaits_owed, redeemed_alike, request_updated_alike, token_active}
use Rattle.aom_typing_rules.specs.Typing.{Typing}
use Rattle.aom_machine_instructions.proofs.SemanticsLemmas.{held_without, named_name, requested_unnamed}
use Rattle.aom_semantics.specs.Clients.{count_messages}
use Rattle.aom_semantics.specs.Effects.{applied, hands_unless, sets}
use Rattle.aom_semantics.specs.Requests.{completed_at_once, receiver_kind, is_idle, is_unanswered, on_request, own_request, request_updated}
use Rattle.aom_safety.specs.Kept.{StateInvariant}
use Rattle.aom_semantics.specs.Moves.{is_refused, needs}
use Rattle.aom_semantics.specs.Places.{Cell, Elsewhere, Idle, Object, Place, Register, Request, Root, Token, changed}
use Rattle.aom_semantics.specs.Places.{held, named, requested, same_place, service_of, set_request, without}
use Rattle.aom_safety.specs.Requests.{Known, ConformsTo, states_claim, thing_kind}
use Rattle.aom_semantics.specs.State.{Choice, Inside, Run, State, next, set_word}
use Rattle.aom_semantics.specs.Tokens.{all_redeemed, awaited, awaits, busy, class_of_thing, handed_cells, receiver_class, is_message_store_full}
use Rattle.aom_semantics.specs.Tokens.{is_order, needs_hand, next_token, order_in, promised, redeemed_by, token_of, with_token}
use Rattle.aom_safety.specs.WellTyped.{WellTyped}
use Rattle.aom_semantics.specs.Words.{read}
use Rattle.aom_semantics.specs.Lines.{message_line, reported_line}
use Rattle.aom_machine_instructions.proofs.MachineStateLemmas.{cells_answered, cells_handed, completion_reported, its_order, its_token, message_kept}
use Rattle.aom_machine_instructions.proofs.MachineStateLemmas.{natives_answered, natives_handed, natives_request_updated, pending_reported, place_below, place_of}
use Rattle.aom_machine_instructions.proofs.MachineStateLemmas.{redeemed_left, requests_answered, requests_handed, services_answered, services_handed}
use Rattle.aom_machine_instructions.proofs.MachineStateLemmas.{reported_no_sender, waits_here, with_its_token}
use Rattle.aom_machine_state.specs.Agrees.{Agrees, SameRequests, observed_by}
use Rattle.aom_machine_state.specs.Fields.{this}
use Rattle.aom_machine_state.specs.Places as places
use Rattle.aom_machine_state.specs.Places.{others, set_register, value_in}
use Rattle.aom_machine_state.specs.Serving.{message_name}
use Rattle.aom_machine_state.specs.Tokens as meant
use Rattle.aom_machine_state.specs.Tokens.{ClosesSession, class_in, no_words}
use Rattle.aom_machine_state.specs.declared.parts.Parts.{Parts}
use Rattle.aom_cells.specs.Tokens.{Kept, Sets, class_at, redeemed}
use Rattle.aom_machine_instructions.specs.Acts.{CurrentFrame, Does, WritesLines, DoesIn}
use Rattle.aom_machine_instructions.specs.Next.{IsNext, counting}
use Rattle.aom_machine_instructions.specs.Tokens.{Answers, Hands, HandsNone, HandsOne, IsAnswerable, Pends, Redeems, RedeemsOne}
use Rattle.aom_machine_instructions.proofs.GoingActs.{thing_is}
use Rattle.aom_machine_instructions.proofs.GoingOn.{goes_on_with, still_none, written}
use Rattle.aom_machine_instructions.proofs.ReceiverHolding.{has_task, needs_met}
use Rattle.aom_machine_instructions.proofs.MessageActs.{InRegister, completed_agrees, completed_reported, in_register, it_was_sent, replied}
use Rattle.aom_machine_instructions.proofs.RequestActs.{OnObject, cells_request_updated, finds_cell, finds_object, idle_only, idle_unreported, in_one, on_object}
use Rattle.aom_machine_instructions.proofs.RequestActs.{own_reported, requests_become, requests_set, services_become, state_reported, thing_here}
use Rattle.aom_machine_instructions.proofs.Running.{free, observed_fits, lives_below, no_thing}
use Rattle.aom_machine_instructions.proofs.WordActs.{plain_does, word_read}

-- ---- a reply to a token

-- what waits for a token is no request whose cancel has no code
awaits_answered : (order : ℕ) (k : Option ClassKind) (n : Known) (r : Option Request) → ConformsTo k n r → awaits order r ≡ true → is_unanswered r ≡ false
awaits_answered order k n r conforms_to waits = grind arith

-- at a place without a token none is completed
none_redeemed : (w : Kept) (place : ℕ) → class_at w place ≡ None → redeemed w place ≡ None
none_redeemed w place none = grind (arith, nat_tests)

module _ (m : Parts) (a b place : ℕ) (store : Store) (active : Active) (w : Kept) (code : ℤ) (named_so : first_number + place ≡ register_here m.stack.tasks a)
    (reported : is_some (class_at m.tokens place) ≡ true) (read_so : code ≡ cast_signed w32 (register_here m.stack.tasks b)) where
  abbrev mid : Parts
  mid = record m { active = active; messages = store; tokens = w }

  module _ (p : Image) (h : CurrentFrame p m) (c : Choice) (met : AllTrue (needs p c h.frame h.below h.state (Reply a b))) where
    abbrev g : Place
    g = Register (length h.below) a

    it : InRegister p m h a
    it = in_register p m h a b met

    name : it.object.name ≡ message_name place
    name = it.number ∙ sym named_so

    code_so : code ≡ read h.frame h.below h.state b
    code_so = read_so ∙ word_read p m h b met.1.1.1.0

    abbrev order : ℕ
    order = (its_order p m.tokens h.state.cells h.agrees.services.tokens place reported).0

    its : order_in (service_of h.state.cells it.object.name).token ≡ Some order
    its = its_token p h.typing h.state h.typed g it.object it.there it.message place name h.kept refl m.tokens h.agrees.services.tokens reported code

    its_order_so : token_of h.state.cells (held h.state.cells g) ≡ Some order
    its_order_so = ap (token_of h.state.cells) it.there ∙ its

    abbrev left : List Cell
    left = redeemed_left p h.typing h.state h.typed g it.object it.there it.message place name h.kept refl m.tokens h.agrees.services.tokens reported code

    redeem_agrees : a < 16 → Changes m.messages store place None → count store + 1 ≡ count m.messages →
        Sets m.tokens.places w.places place None → ClosesSession (redeemed m.tokens place) m.tokens w → meant.Redeems (redeemed m.tokens place) code m.active active →
        Agrees p (places.next (set_register a null mid)) (replied p h a b (token_of h.state.cells (held h.state.cells g)))
    redeem_agrees small gone fewer freed lets answers =
        let s = h.state in
        subst (λ o. Agrees p (places.next (set_register a null mid)) (replied p h a b o)) (sym its_order_so)
        (subst (λ v. Agrees p (places.next (set_register a null mid))
        (record s { cells = without g (redeemed_by (Some order) v s.cells); tasks = Run (next (set_word h.frame a None)) ∷ h.below })) code_so
        (goes_on_with p m h mid left s.items s.rest (set_extending None h.frame.words a None) (on_top (with_register a null)) (with_register a null) (λ f ms. refl)
        (record {
          stack = refl;
          cells = cells_answered p h.typing s h.typed g it.object it.there it.message place name h.kept refl m.tokens h.agrees.services.tokens reported
              code m.cells h.agrees.cells;
          entries = h.agrees.entries;
          requests = requests_answered p h.typing s h.typed
              g it.object it.there it.message place name h.kept refl m.tokens h.agrees.services.tokens reported code m.active active answers h.agrees.requests;
          natives = natives_answered p h.typing s h.typed g it.object
              it.there it.message place name h.kept refl m.tokens h.agrees.services.tokens reported code m.sessions h.formed.header.cells h.agrees.natives;
          services = services_answered p h.typing s h.typed g it.object it.there it.message
              place name h.kept refl m.tokens h.agrees.services.tokens reported code m.clients m.messages store m.listed w gone fewer freed lets h.agrees.services;
          rest = h.agrees.rest;
          room = h.agrees.entry_room;
        }) (λ f ms e top. written p m h mid left a null None None small refl f ms top (λ q. refl)
        (λ q. held_without (all_redeemed order code s.cells) g q ∙ ap (λ o. changed (λ z. o) g None q) ((redeemed_alike order code s.cells).held_so q)))))

    -- a token has no client
    redeem_silent : message_line h.state.cells (held h.state.cells g) (read h.frame h.below h.state b) ≡ []
    redeem_silent = ap (λ o. message_line h.state.cells o (read h.frame h.below h.state b)) it.there
        ∙ ap (reported_line (read h.frame h.below h.state b)) (reported_no_sender p h.typing h.state h.typed g it.object it.there it.message h.kept.fit.sources
        (some_token (service_of h.state.cells it.object.name).token its))
      where
        some_token : (x : Option Token) → order_in x ≡ Some order → is_some x ≡ true
        some_token None e = absurd (none-some order e)
        some_token (Some x) e = refl

-- as the code does it
module _ (m mid new : Parts) (reported now : LineBuffer) (n : ℕ) (code : ℤ) (a b : ℕ) (emptied : mid ≡ set_register a null m)
    (number_so : n ≡ register_here m.stack.tasks a) (read_so : code ≡ cast_signed w32 (register_here m.stack.tasks b)) where
  redeem_done : (refused : List ℕ) (last : Parts) → a < 16 → last ≡ places.next new → RedeemsOne n code mid new reported now → Does refused (Reply a b) m last
  redeem_done refused last small goes_on does =
      let r = subst (λ (x : Parts). Redeems does.place code x new) emptied does.redeems in
      subst (λ x. Does refused (Reply a b) m x) (sym (goes_on ∙ ap places.next r.rest)) (plain_does m _ refused (Reply a b) refl (λ p h c met.
      redeem_agrees m a b does.place new.messages new.active new.tokens code
      (does.number ∙ number_so) (subst (λ (x : Parts). is_some (class_at x.tokens does.place) ≡ true) emptied does.token) read_so p h c met
      small r.released r.count r.freed r.lets r.answers))

  redeem_reported : RedeemsOne n code mid new reported now → WritesLines (Reply a b) m reported now
  redeem_reported does = record {
    lines = λ p h c met. does.silent ∙ ap (λ ls. record reported { lines = ls }) (sym (append-nil reported.lines))
        ∙ ap (λ ls. record reported { lines = reported.lines ++ ls }) (sym (redeem_silent m a b does.place new.messages new.active new.tokens code
        (does.number ∙ number_so) (subst (λ (x : Parts). is_some (class_at x.tokens does.place) ≡ true) emptied does.token) read_so p h c met));
  }

  -- a message is a token, or a client's
  pub answer_done : (refused : List ℕ) (last : Parts) → a < 16 → last ≡ places.next new → Answers n code mid new reported now → Does refused (Reply a b) m last
  answer_done refused last small goes_on (inl does) = redeem_done refused last small goes_on does
  answer_done refused last small goes_on (inr does) = plain_does m last refused (Reply a b) refl
      (λ p h c met. completed_agrees m mid new reported now n code a b emptied number_so does.completes last does.sent small goes_on p h met)

  pub answer_reported : Answers n code mid new reported now → WritesLines (Reply a b) m reported now
  answer_reported (inl does) = redeem_reported does
  answer_reported (inr does) =
      record { lines = λ p h c met. completed_reported m mid new reported now n code a b emptied number_so does.completes read_so p h met }

-- the method is as it was, but for its tokens
pub answer_rest : (n : ℕ) (code : ℤ) (old new : Parts) (reported now : LineBuffer) → Answers n code old new reported now → new.stack ≡ old.stack
answer_rest n code old new reported now x = grind arith

-- what has a request lives
asked_lives : (cs : List Cell) (n : ℕ) → is_some (requested cs n) ≡ true → (o : Object) × (named cs n ≡ Some o) × (o.name ≡ n)
asked_lives cs n asked = grind (arith, nat_tests, requested_unnamed cs n, named_name cs n)

-- the request that waits for the token at a place is pending
module _ (p : Image) (m : Parts) where
  its_pending : (t : Typing) (s : State) → WellTyped p t s → StateInvariant p s → Agrees p m s → (place : ℕ) → Pends place m
  its_pending t s typed kept agrees place = go (redeemed m.tokens place) refl
    where
      pends : (n : ℕ) → redeemed m.tokens place ≡ Some n → is_some (class_at m.tokens place) ≡ true → IsTrue (is_pending (request_at m.active.table n))
      pends n e reported =
          let o = its_order p m.tokens s.cells agrees.services.tokens place reported in
          let waits = waits_here p m.tokens s.cells agrees.services.tokens place reported kept.tokens o.0 o.1 n e in
          let is : awaits o.0 (requested s.cells n) ≡ true = ap (is_order o.0) waits ∙ eq-eqb o.0 o.0 refl in
          let x = asked_lives s.cells n (some_asked o.0 (requested s.cells n) waits) in
          let conforms_to = subst (λ i. ConformsTo (thing_kind p x.0.thing) (states_claim p x.0 typed.layers) (requested s.cells i)) x.2
          (typed.good.conforms_to x.0 (ap (named s.cells) x.2 ∙ x.1)) in
          pending_reported (request_at m.active.table n) (requested s.cells n) (queued p s.cells n)
          (agrees.requests.stands.reports n) (awaits_answered o.0 _ _ (requested s.cells n) conforms_to is) (awaits_owed o.0 _ _ (requested s.cells n) conforms_to is)
        where
          some_asked : (k : ℕ) (r : Option Request) → awaited r ≡ Some k → is_some r ≡ true
          some_asked k None e = absurd (none-some k e)
          some_asked k (Some r) e = refl

      reported_there : (n : ℕ) → redeemed m.tokens place ≡ Some n → (x : Option ℕ) → class_at m.tokens place ≡ x → is_some x ≡ true
      reported_there n e None none = absurd (none-some n (sym (none_redeemed m.tokens place none) ∙ e))
      reported_there n e (Some x) some = refl

      go : (x : Option ℕ) → redeemed m.tokens place ≡ x → IfSome x (λ n. IsTrue (is_pending (request_at m.active.table n)))
      go None e = tt
      go (Some n) e = pends n e (reported_there n e (class_at m.tokens place) refl)

-- what the code needs to know of a reply that is next
module _ (p : Image) (m : Parts) where
  -- the register has a message that is a token, or that was taken, also once it is null
  pub reply_answerable : (a b : ℕ) → IsNext p (Reply a b) m → IsAnswerable (register_here m.stack.tasks a) (set_register a null m)
  unfolding has_task
  reply_answerable a b is_next =
      let n = needs_met p m (Reply a b) is_next in
      let before = counting is_next.counts m in
      let h = has_task p before is_next.stands is_next.runs in
      let x = in_register p before h a b n.1 in
      let g = Register (length h.below) a in
      let place = place_of p h.typing h.state h.typed g x.object x.there x.message m.messages h.agrees.services.messages in
      record {
        place = place.0;
        number = sym place.1 ∙ x.number;
        below = place_below p h.typing h.state h.typed g x.object x.there x.message place.0 place.1 m.messages h.agrees.services.messages;
        kept = message_kept p h.typing h.state h.typed g x.object x.there x.message place.0 place.1 m.messages h.agrees.services.messages;
        pends = its_pending p before h.typing h.state h.typed h.kept h.agrees place.0;
        taken = λ sent. completion_reported p h.typing h.state h.typed g x.object
            x.there x.message place.0 place.1 h.wired h.kept refl m.clients h.agrees.services.clients (it_was_sent p before h a x place.0 place.1 sent);
      }

-- ---- a token is handed out

-- no cell and no message has the name of a message place that is free
place_unnamed : (p : Image) (m : Parts) (h : CurrentFrame p m) (place : ℕ) → message_at m.messages place ≡ None → named h.state.cells (message_name place) ≡ None
place_unnamed p m h place free = grind (arith, nat_tests, no_thing, free, lives_below p m h.state h.formed h.agrees)

module _ (m : Parts) (refused : List ℕ) (a class : ℕ) (small : a < 16) (class_so : class_of_cell m.cells (this m) ≡ Some class) where
  busy_unreported : (o : Option Request) → awaited (on_request (completed_at_once busy) o) ≡ None
  busy_unreported x = grind arith

  -- there is no room
  hand_none : (new : Parts) → HandsNone null (this m) m new → Does refused (Hand a) m (places.next (set_register a null new))
  hand_none new does = subst (λ x. Does refused (Hand a) m (places.next (set_register a null x))) (sym does.rest)
      (plain_does m _ refused (Hand a) refl (λ p h c met.
      let s = h.state in
      let own = own_request s.cells h.frame.receiver in
      let mid = record m { active = new.active } in
      let on = on_object p m h (active_listed _ (token_active _ met.1.0)) in
      let r = in_one is_idle own met.1.1.1.0 in
      let cs = request_updated s.cells h.frame.receiver (on_request (completed_at_once busy) own) in
      let limit = h.agrees.services.messages.limit in
      let many = h.agrees.services.messages.count in
      let full = does.full in
      let full_store_case : is_message_store_full p s.cells ≡ true = le-leb p.header.messages (count_messages s.cells) (omega (arith, limit, many, full)) in
      subst (λ b. Agrees p (places.next (set_register a null mid)) (applied p h.frame h.below s (sets h.frame a None (hands_unless b c.name a own))))
      (sym full_store_case) (goes_on_with p m h mid cs s.items s.rest (set_extending None h.frame.words a None) (on_top (with_register a null)) (with_register a null)
      (λ f ms. refl) (record {
        stack = refl;
        cells = cells_request_updated p m.cells s.cells h.frame.receiver (on_request (completed_at_once busy) own) h.agrees.cells;
        entries = h.agrees.entries;
        requests = requests_become p m h on new.active (completed_at_once busy) r.0 r.1 does.makes;
        natives = natives_request_updated p m.sessions s.killed s.cells h.frame.receiver (on_request (completed_at_once busy) own) h.agrees.natives;
        services = services_become p m h on (completed_at_once busy) (λ r. refl) (busy_unreported own ∙ sym (idle_unreported p m h on met.1.1.1.0));
        rest = h.agrees.rest;
        room = h.agrees.entry_room;
      }) (λ f ms e top. written p m h mid cs a null None None small refl f ms top (λ q. refl)
      (λ q. (request_updated_alike s.cells h.frame.receiver (on_request (completed_at_once busy) own)).held_so q ∙ still_none p m h a (free _ met.0) q)))))

  -- there is
  module _ (n : ℕ) (new : Parts) (does : HandsOne n (this m) class m new) (p : Image) (h : CurrentFrame p m)
      (met : AllTrue (needs_hand p h.frame h.below h.state a)) where
    abbrev s : State
    s = h.state

    abbrev next_order : ℕ
    next_order = next_token s.cells

    abbrev here : Place
    here = Register (length h.below) a

    abbrev hand_mid : Parts
    hand_mid = record m { active = new.active; messages = new.messages; tokens = new.tokens }

    on : OnObject p m h
    on = on_object p m h (active_listed _ (token_active _ met.1.0))

    asks : (q : Request) × (requested s.cells on.object.name ≡ Some q)
    asks = grind (arith, nat_tests, in_one, own_reported p m h on, on)

    free_place : named s.cells (message_name does.place) ≡ None
    free_place = place_unnamed p m h does.place does.free

    abbrev then : List Cell
    then = with_its_token p s.cells on.object on.lives asks.0 asks.1 does.place class next_order here free_place refl

    -- these are the cells that the checked machine has then
    class_here : receiver_class h.frame.receiver ≡ class
    class_here = ap receiver_class on.receiver ∙ ap class_of_thing (thing_is on.object.thing class (cell_at m.cells (this m)) class_so (thing_here p m h on))

    handed_so : handed_cells (message_name does.place) h.frame.receiver here s.cells ≡ then
    handed_so = ap (λ k. with_token (message_name does.place) (record { class = k; order = next_order }) here
        (request_updated s.cells h.frame.receiver (on_request (promised next_order) (own_request s.cells h.frame.receiver)))) class_here
        ∙ ap (λ receiver. with_token (message_name does.place) (record { class = class; order = next_order }) here
        (request_updated s.cells receiver (on_request (promised next_order) (own_request s.cells receiver)))) on.receiver ∙ ap (λ q. with_token (message_name does.place)
        (record { class = class; order = next_order }) here (set_request on.object.name (on_request (promised next_order) q) s.cells)) asks.1

    table_then : SameRequests p new.active (set_request on.object.name (Some (promised next_order asks.0)) s.cells)
    table_then = requests_set p m.active new.active s.cells on.object (Some (promised next_order asks.0)) on.lives (does.makes next_order).limit
        (subst (λ i. RefinesRequests new.active (asked_anew i (Some (promised next_order asks.0)) (requested s.cells)) (queued p s.cells)) on.number
        ((does.makes next_order).stands (requested s.cells) (queued p s.cells) asks.0 h.agrees.requests.stands (ap (requested s.cells) on.number ∙ asks.1)))
        h.agrees.requests

    token_then : Sets m.tokens.places new.tokens.places does.place (Some (record { class = class; object = on.object.name }))
    token_then = subst (λ i. Sets m.tokens.places new.tokens.places does.place (Some (record { class = class; object = i }))) on.number does.token

    living_then : Sets m.tokens.living new.tokens.living on.object.name (Some does.place)
    living_then = subst (λ i. Sets m.tokens.living new.tokens.living i (Some does.place)) on.number does.lives

    hand_agrees : Agrees p (places.next (set_register a n hand_mid))
        (record s { cells = handed_cells (message_name does.place) h.frame.receiver here s.cells; tasks = Run (next (set_word h.frame a None)) ∷ h.below })
    hand_agrees = subst (λ cs. Agrees p (places.next (set_register a n hand_mid))
        (record s { cells = cs; tasks = Run (next (set_word h.frame a None)) ∷ h.below })) (sym handed_so) (goes_on_with p m h hand_mid then s.items s.rest
        (set_extending None h.frame.words a None) (on_top (with_register a n)) (with_register a n) (λ f ms. refl) (record {
          stack = refl;
          cells = cells_handed p s.cells on.object on.lives asks.0 asks.1 does.place class next_order here free_place refl m.cells h.agrees.cells;
          entries = h.agrees.entries;
          requests = requests_handed p s.cells on.object on.lives asks.0 asks.1 does.place class next_order here free_place refl new.active table_then;
          natives = natives_handed p s.cells on.object on.lives asks.0 asks.1 does.place class next_order here free_place refl m.sessions s.killed
              h.formed.header.cells h.agrees.natives;
          services = services_handed p s.cells on.object on.lives asks.0 asks.1 does.place class next_order here free_place refl
              m.clients m.messages new.messages m.tokens new.tokens m.listed s.clients does.below does.kept does.count token_then living_then h.agrees.services;
          rest = h.agrees.rest;
          room = h.agrees.entry_room;
        }) (λ f ms e top. written p m h hand_mid then a n None (Some (record { name = message_name does.place; thing = Message })) small does.number f ms top
        (λ q. refl) (λ q. ap (λ o. cond (same_place here q) (Some (record { name = message_name does.place; thing = Message })) o)
        ((request_updated_alike s.cells (Inside on.object (Elsewhere Root)) (Some (promised next_order asks.0))).held_so q))))

  hand_one : (n : ℕ) (new : Parts) → HandsOne n (this m) class m new → Does refused (Hand a) m (places.next (set_register a n new))
  unfolding DoesIn
  hand_one n new does = subst (λ x. Does refused (Hand a) m (places.next (set_register a n x))) (sym does.rest) (λ p h at_it. (
    record { name = message_name does.place; refused = is_refused p refused h.state; answer = observed_by m },
    record { name = place_unnamed p m h does.place does.free; refusal = refl; answer = observed_fits m },
    refl,
    grind (arith, nat_tests, lt-leb p.header.messages, hand_agrees n new does p h),
  ))

  pub hand_does : (n : ℕ) (new : Parts) → Hands n (this m) class m new → Does refused (Hand a) m (places.next (set_register a n new))
  hand_does n new (inl does) = grind (arith, nat_tests, hand_none new)
  hand_does n new (inr does) = hand_one n new does

-- what the code needs to know of it
module _ (p : Image) (m : Parts) (a : ℕ) (next : IsNext p (Hand a) m) where
  abbrev known : CurrentFrame p (counting next.counts m)
  known = has_task p (counting next.counts m) next.stands next.runs

  found : OnObject p (counting next.counts m) known
  found = finds_object p m (Hand a) next (λ c fr ts s n. active_listed (receiver_kind p fr.receiver) (token_active (receiver_kind p fr.receiver) n.1.0))

  pub hand_lives : Lives m.cells (this m)
  hand_lives = finds_cell p m (Hand a) next (λ c fr ts s n. active_listed (receiver_kind p fr.receiver) (token_active (receiver_kind p fr.receiver) n.1.0))

  -- its request is idle
  pub hand_idle : state_at m.active.table (this m) ≡ Some (held_state Idle)
  hand_idle =
      let n = needs_met p m (Hand a) next in
      let r = in_one is_idle _ n.1.1.1.1.0 in
      state_reported p _ _ found (token_active _ n.1.1.0) r.0 r.1 ∙ ap (λ x. Some (held_state x)) (idle_only r.0.phase r.2)

  -- there is a place for each message and for each cell
  pub hand_places : m.messages.limit ≤ length m.tokens.places
  hand_places = let limit = next.stands.1.agrees.services.messages.limit in let places = next.stands.1.agrees.services.tokens.places in omega (arith, limit, places)

  pub hand_cells : m.cells.limit ≤ length m.tokens.living
  hand_cells = let limit = next.stands.1.agrees.cells.limit in let cells = next.stands.1.agrees.services.tokens.cells in omega (arith, limit, cells)

-- ---- what a message is

-- the place of a message is told by its number
pub place_reported : (a b n : ℕ) → first_number + a ≡ n → first_number + b ≡ n → a ≡ b
place_reported a b n e f = omega (arith, e, f)

pub is_no_token : (w : Kept) (place other : ℕ) (x : Option ℕ) (b : Bool) → x ≡ class_at w place → b ≡ is_some x → b ≡ false → other ≡ place → class_at w other ≡ None
is_no_token w place other x b is reported none same = grind arith

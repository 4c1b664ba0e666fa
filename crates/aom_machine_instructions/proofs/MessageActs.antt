-- Instructions on messages: the one that is served comes to a register, and a client's message is completed.
use Rattle.std.proofs.lemmas.Bool.Decides.{nat_tests}
use Rattle.std.proofs.Common.{List, None, Option, Some, ap, arith, length, refl, subst, sym, true, ℕ, ℤ, ◌+◌, ◌++◌, ◌<◌, ◌∙◌, ◌∷◌, ◌≡◌}
use Rattle.std.specs.Prelude.{is_some}
use Rattle.std.proofs.lemmas.Bool.{false≢true}
use Rattle.std.specs.Int.{w32, cast_signed}
use Rattle.aom_cells.specs.Heap.{null}
use Rattle.aom_clients.specs.Clients.{after_complete, place_at}
use Rattle.aom_clients.specs.Table.{completion}
use Rattle.aom_clients.specs.declared.place.Completion.{Completion}
use Rattle.aom_frames.specs.declared.item.Item.{Item}
use Rattle.aom_frames.specs.Tasks.{on_top, register_here, with_register}
use Rattle.aom_frames.specs.declared.task.Task.{Task as Machine_task}
use Rattle.aom_frames.specs.declared.task.Task.TheVariants.{Run as Runs_frame}
use Rattle.aom_cells.specs.Heap.{Heap}
use Rattle.aom_image.specs.Image.{Image}
use Rattle.aom_image.specs.declared.method.Thing.TheVariants.{Message}
use Rattle.aom_instructions.specs.declared.instr.Instr.TheVariants.{TakeMessage}
use Rattle.aom_roles.specs.Tests.{AllTrue}
use Rattle.aom_machine_state.specs.LineBuffer.{LineBuffer}
use Rattle.aom_cells.specs.Store.{Changes, Store, count, first_number}
use Rattle.aom_roles.specs.Tables.{set_extending}
use Rattle.aom_machine_instructions.proofs.SemanticsLemmas.{held_moved, held_without}
use Rattle.aom_machine_instructions.proofs.SafetyLemmas.{has_sender, stands_message}
use Rattle.aom_semantics.specs.Calls.{needs_reply}
use Rattle.aom_semantics.specs.Lines.{message_line}
use Rattle.aom_semantics.specs.Objects.{is_thing}
use Rattle.aom_semantics.specs.Places.{Elsewhere, In_service, Object, Place, Register, changed, held, moved, service_of, without}
use Rattle.aom_semantics.specs.State.{Run, State, next, set_word}
use Rattle.aom_semantics.specs.Tokens.{order_in, redeemed_by, token_of}
use Rattle.aom_semantics.specs.Words.{read}
use Rattle.aom_cells.specs.Tokens.{class_at}
use Rattle.aom_machine_state.specs.declared.parts.Parts.{Parts}
use Rattle.aom_machine_state.specs.Places as places
use Rattle.aom_machine_state.specs.Places.{Others, others, set_register, value_in}
use Rattle.aom_machine_state.specs.Agrees.{Agrees, number}
use Rattle.aom_machine_state.specs.Serving.{message_name}
use Rattle.aom_machine_instructions.proofs.MachineStateLemmas.{cells_completed, cells_moved, completed_lines, message_sent, message_reported, moves}
use Rattle.aom_machine_instructions.proofs.MachineStateLemmas.{natives_completed, natives_moved, requests_completed, requests_moved, served_written}
use Rattle.aom_machine_instructions.proofs.MachineStateLemmas.{services_completed, services_moved, value_written, was_taken, word_written}
use Rattle.aom_machine_instructions.specs.Acts.{CurrentFrame, Does}
use Rattle.aom_machine_instructions.specs.Serving.{Completes, completion_lines}
use Rattle.aom_machine_instructions.proofs.GoingOn.{framed, goes_on_with, written}
use Rattle.aom_machine_instructions.proofs.ObjectActs.{shown_here}
use Rattle.aom_machine_instructions.proofs.Running.{free, no_word}
use Rattle.aom_machine_instructions.proofs.WordActs.{plain_does, word_read}

-- what a completion changes of clients shows in no place
completed_values : (us : List Machine_task) (h : Heap) (es : List Item) (o : Others) (place : ℕ) (r : Place) →
    value_in us h es (record o { clients = after_complete place o.clients }) r ≡ value_in us h es o r
completed_values us h es o place r = grind arith

module _ (m : Parts) (refused : List ℕ) where
  -- the message that is served comes to a register
  pub take_message_does : (a : ℕ) → a < 16 → Does refused (TakeMessage a) m (places.next (set_register a m.served (record m { served = null })))
  take_message_does a small = plain_does m (places.next (set_register a m.served (record m { served = null }))) refused (TakeMessage a) refl (λ p h c met.
      let s = h.state in
      let ts = h.below in
      let mid = record m { served = null } in
      let from = Elsewhere In_service in
      let to = Register (length ts) a in
      goes_on_with p m h mid (moved from to s.cells) s.items s.rest (set_extending None h.frame.words a None) (on_top (with_register a m.served))
      (with_register a m.served) (λ f ms. refl) (record {
        stack = refl;
        cells = cells_moved p m.cells s.cells from to h.agrees.cells;
        entries = h.agrees.entries;
        requests = requests_moved p m.active s.cells from to h.agrees.requests;
        natives = natives_moved p m.sessions s.killed s.cells from to h.agrees.natives;
        services = services_moved p s.cells from to refl refl h.agrees.services;
        rest = h.agrees.rest;
        room = h.agrees.entry_room;
      }) (λ f ms e top.
      let wide = top.frame.wide in
      record {
        frame = framed p m h f ms _ a m.served top;
        values = moves _ _ _ _ (held s.cells) _ from to top.values refl (λ r.
            value_written f ms m.cells m.entries.items (others mid) (length ts) a m.served f.place top.deep (omega arith) r
            ∙ ap (λ y. changed (λ q. y) to m.served r) (served_written (Runs_frame f ∷ ms) m.cells m.entries.items (others m) null r))
            (word_written h.frame ts a h.frame.place None) (λ r. held_moved s.cells from to r (free _ met.0));
      }))

-- ---- a message is completed

-- what is in the register is a message, with the number that the register shows
pub record InRegister (p : Image) (m : Parts) (h : CurrentFrame p m) (a : ℕ) : Type 0 where
  pub object : Object
  pub there : held h.state.cells (Register (length h.below) a) ≡ Some object
  pub message : object.thing ≡ Message
  pub number : object.name ≡ register_here m.stack.tasks a

pub in_register : (p : Image) (m : Parts) (h : CurrentFrame p m) (a b : ℕ) → AllTrue (needs_reply p h.frame h.below h.state a b) → InRegister p m h a
in_register p m h a b met = go (held h.state.cells (Register (length h.below) a)) refl met.1.0 met.1.1.0
  where
    go : (x : Option Object) → held h.state.cells (Register (length h.below) a) ≡ x → is_some (held h.state.cells (Register (length h.below) a)) ≡ true →
        is_thing p Message (held h.state.cells (Register (length h.below) a)) ≡ true → InRegister p m h a
    go None e some thing = absurd (false≢true (ap is_some (sym e) ∙ some))
    go (Some o) e some thing = record {
      object = o;
      there = e;
      message = stands_message p o.thing (ap (is_thing p Message) (sym e) ∙ thing);
      number = sym (shown_here p m h a (no_word _ met.0) ∙ ap number e);
    }

-- the state once it is replied to, where it is a token of that order
abbrev pub replied : (p : Image) {m : Parts} (h : CurrentFrame p m) → ℕ → ℕ → Option ℕ → State
replied p h a b order =
    let code = read h.frame h.below h.state b in
    record h.state { cells = without (Register (length h.below) a) (redeemed_by order code h.state.cells); tasks = Run (next (set_word h.frame a None)) ∷ h.below }

-- where no token is at its place it is none
module _ (p : Image) (m : Parts) (h : CurrentFrame p m) (a : ℕ) (x : InRegister p m h a) (place : ℕ) (name : x.object.name ≡ message_name place)
    (sent : class_at m.tokens place ≡ None) where
  no_token_there : (service_of h.state.cells x.object.name).token ≡ None
  no_token_there = grind (arith, nat_tests)

  -- so no request waits for it, and it has a sender
  nothing_reported : token_of h.state.cells (held h.state.cells (Register (length h.below) a)) ≡ None
  nothing_reported = ap (token_of h.state.cells) x.there ∙ ap order_in no_token_there

  pub it_was_sent : has_sender h.state.cells x.object.name ≡ true
  it_was_sent = message_sent p h.typing h.state h.typed (Register (length h.below) a) x.object x.there x.message h.kept.fit.sources no_token_there

-- where a register's message is replied to
module _ (p : Image) (m : Parts) (h : CurrentFrame p m) (a b : ℕ) (met : AllTrue (needs_reply p h.frame h.below h.state a b)) where
  abbrev g : Place
  g = Register (length h.below) a

  it : InRegister p m h a
  it = in_register p m h a b met

  module _ (place : ℕ) (named : first_number + place ≡ register_here m.stack.tasks a) where
    name : it.object.name ≡ message_name place
    name = it.number ∙ sym named

    -- the machine with that message completed stands for the state then
    complete_agrees : (store : Store) → a < 16 → class_at m.tokens place ≡ None → Changes m.messages store place None → count store + 1 ≡ count m.messages →
        Agrees p (places.next (record (set_register a null m) { clients = after_complete place m.clients; messages = store }))
        (replied p h a b (token_of h.state.cells (held h.state.cells g)))
    complete_agrees store small sent gone fewer =
        let s = h.state in
        let mid = record m { clients = after_complete place m.clients; messages = store } in
        subst (λ order. Agrees p (places.next (record (set_register a null m) { clients = after_complete place m.clients; messages = store }))
        (replied p h a b order)) (sym (nothing_reported p m h a it place name sent)) (goes_on_with p m h mid (without g s.cells) s.items s.rest
        (set_extending None h.frame.words a None) (on_top (with_register a null)) (with_register a null) (λ f ms. refl) (record {
          stack = refl;
          cells = cells_completed p h.typing s h.typed g it.object it.there it.message place name m.cells h.agrees.cells;
          entries = h.agrees.entries;
          requests = requests_completed p h.typing s h.typed g it.object it.there it.message place name m.active h.agrees.requests;
          natives = natives_completed p h.typing s h.typed g it.object it.there it.message place name m.sessions h.formed.header.cells h.agrees.natives;
          services = services_completed p h.typing s h.typed g it.object it.there it.message place name h.wired h.kept refl
              (it_was_sent p m h a it place name sent) m.clients m.messages m.tokens m.listed h.agrees.services store gone fewer;
          rest = h.agrees.rest;
          room = h.agrees.entry_room;
        })
        (λ f ms e top. written p m h mid (without g s.cells) a null None None small refl f ms top
        (completed_values (Runs_frame f ∷ ms) m.cells m.entries.items (others m) place) (held_without s.cells g)))

    -- and its line is what the message's sender is told
    complete_lines : (code : ℤ) → code ≡ cast_signed w32 (register_here m.stack.tasks b) →
        completion_lines (completion (place_at m.clients place)) code ≡ message_line h.state.cells (held h.state.cells g) (read h.frame h.below h.state b)
    complete_lines code is =
        let s = h.state in
        let taken = was_taken p h.typing s h.typed g it.object it.there it.message place name h.wired h.kept refl m.clients h.agrees.services.clients in
        lines_so (completion (place_at m.clients place)) code ∙ sym (message_reported m.clients s.cells s.clients h.agrees.services.clients it.object place code
        name taken) ∙ ap (λ o. message_line s.cells o code) (sym it.there) ∙ ap (message_line s.cells (held s.cells g)) (is ∙ word_read p m h b met.1.1.1.0)
      where
        lines_so : (x : Option Completion) (code : ℤ) → completion_lines x code ≡ completed_lines code x
        lines_so None code = refl
        lines_so (Some x) code = refl

-- as the code does it: the register is null, the message is completed, and the method goes on
module _ (m mid new : Parts) (reported now : LineBuffer) (n : ℕ) (code : ℤ)
    (a b : ℕ) (emptied : mid ≡ set_register a null m) (number_so : n ≡ register_here m.stack.tasks a) (completes : Completes n code mid new reported now) where
  pub completed_agrees : (last : Parts) → class_at mid.tokens completes.place ≡ None → a < 16 → last ≡ places.next new →
      (p : Image) (h : CurrentFrame p m) → AllTrue (needs_reply p h.frame h.below h.state a b) →
      Agrees p last (replied p h a b (token_of h.state.cells (held h.state.cells (Register (length h.below) a))))
  completed_agrees last sent small goes_on p h met =
      grind (arith, nat_tests, complete_agrees p m h a b met completes.place (completes.number ∙ number_so) new.messages small)

  pub completed_reported : code ≡ cast_signed w32 (register_here m.stack.tasks b) → (p : Image) (h : CurrentFrame p m) →
      AllTrue (needs_reply p h.frame h.below h.state a b) → now ≡ record reported {
        lines = reported.lines ++ message_line h.state.cells (held h.state.cells (Register (length h.below) a)) (read h.frame h.below h.state b);
      }
  completed_reported is p h met = completes.line ∙ ap (λ (x : Parts). record reported {
    lines = reported.lines ++ completion_lines (completion (place_at x.clients completes.place)) code;
  }) emptied ∙ ap (λ ls. record reported { lines = reported.lines ++ ls }) (complete_lines p m h a b met completes.place (completes.number ∙ number_so) code is)

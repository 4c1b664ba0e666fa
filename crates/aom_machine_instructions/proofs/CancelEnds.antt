-- A method that cancels is over: its object's request is completed and being cancelled, and both sides take its signal.
use Rattle.std.proofs.lemmas.Bool.Decides.{nat_tests}
use Rattle.std.proofs.Common.{ap, Bool, cond, false, IsTrue, List, Option, refl, Some, subst, sym, true, ℕ, ◌&&◌, ◌||◌, ◌∙◌, ◌∷◌, ◌≡◌, arith}
use Rattle.std.specs.Prelude.{is_some, not}
use Rattle.std.specs.Ordering.{int_eq}
use Rattle.aom_image.specs.Image.{Image}
use Rattle.aom_image.specs.Views.{class_in, gives_of, method_at, method_role, role_in}
use Rattle.aom_image.specs.declared.class.ClassKind.{ClassKind}
use Rattle.aom_image.specs.declared.method.Method.{Method as Method_declared}
use Rattle.aom_image.specs.declared.method.Role.{Role}
use Rattle.aom_image.specs.declared.method.Role.TheVariants.{Cancel}
use Rattle.aom_instructions.specs.Table.{transfer_of}
use Rattle.aom_instructions.specs.declared.instr.Instr.{Instr}
use Rattle.aom_instructions.specs.declared.transfer.Transfer.TheVariants as transfer
use Rattle.aom_roles.specs.Things.{is_object}
use Rattle.aom_roles.specs.Roles.{is_cancel}
use Rattle.aom_roles.specs.Kinds.{is_active_kind}
use Rattle.aom_cells.specs.Heap.{Lives, cell_at, null}
use Rattle.aom_link_conditions.specs.Linked.{IsLinked}
use Rattle.aom_machine_instructions.proofs.LinkConditionsLemmas.{all_there}
use Rattle.aom_roles.specs.Shapes.{IsShaped, is_active_in}
use Rattle.aom_typing_rules.specs.Requests.{own_kind}
use Rattle.aom_semantics.specs.Calls.{result_needs}
use Rattle.aom_safety.specs.Claims.{forms, items_of}
use Rattle.aom_semantics.specs.Requests.{cancelled, ended_cells, hangs, in_phase, is_cancelling, on_request, own_request, pending, request_updated, status_of}
use Rattle.aom_semantics.specs.Places.{Cell, Object, Request, named, requested, set_request}
use Rattle.aom_safety.specs.Requests.{Known, ConformsTo, states_claim}
use Rattle.aom_semantics.specs.State.{AtRoot, Choice, Receiver, Inside, Run, Static}
use Rattle.aom_safety.specs.WellTyped.{Good}
use Rattle.aom_machine_instructions.proofs.SafetyLemmas.{At, active_listed, all_parts, ended_alike, main_of_none, method_layer, of_object}
use Rattle.aom_scheduler.specs.Requests.{is_pending, request_at}
use Rattle.aom_active_objects.specs.Agrees.{Active, RefinesRequests, queued}
use Rattle.aom_active_objects.specs.Meanings.{asked_anew, is_being_cancelled}
use Rattle.aom_machine_instructions.proofs.ActiveObjectsLemmas.{reported_cancelling, reported_over}
use Rattle.aom_frames.specs.Tasks.{TopFrameIs, method_here, this_here}
use Rattle.aom_machine_state.specs.declared.parts.Parts.{Parts}
use Rattle.aom_machine_instructions.specs.Acts.{CurrentFrame, requested as counted}
use Rattle.aom_machine_state.specs.Agrees.{Agrees, SameCells, SameRequests, Represents, receiver_number, word_at, SameNatives}
use Rattle.aom_machine_state.specs.Fields.{this}
use Rattle.aom_machine_instructions.specs.Next.{IsNext, counting}
use Rattle.aom_machine_state.specs.Places.{value}
use Rattle.aom_machine_instructions.specs.Requests.{EndsCancel, IsCancelled, IsOver}
use Rattle.aom_machine_instructions.proofs.MachineStateLemmas.{cell_of, cells_asked, natives_asked, services_ended}
use Rattle.aom_machine_instructions.proofs.FieldActs.{receiver_held, inside_object}
use Rattle.aom_machine_instructions.proofs.RequestActs.{in_one, requests_set}
use Rattle.aom_machine_instructions.proofs.ReceiverHolding.{has_task, needs_met, return_needs}
use Rattle.aom_machine_instructions.proofs.Running.{by_top}
use Rattle.aom_machine_instructions.proofs.Stepping.{at_step}

-- ---- the method works on an active object

active_in : (k : Option ClassKind) → IsTrue (is_active_in k) → is_active_kind k ≡ true
unfolding is_active_in
active_in k active = grind arith

cancels_active : (p : Image) → IsLinked p → (m : ℕ) (d : Method_declared) → method_at p m ≡ Some d → d.role ≡ Cancel → is_active_kind (own_kind p m) ≡ true
unfolding method_at class_in
cancels_active p linked m d e role = grind (arith, nat_tests, all_there (IsShaped p) p.methods m d linked.shapes e, active_in)

-- whose request is being cancelled
being_cancelled : (k : Option ClassKind) (n : Known) (r : Option Request) → is_active_kind k ≡ true → n.cancelled ≡ true → ConformsTo k n r →
    in_phase is_cancelling r ≡ true
being_cancelled k n r active cancels conforms_to = grind arith

-- the needs of a return have it completed
completed : (x y : Bool) → x ≡ true → not (x && y) ≡ true → y ≡ false
completed x y e h = grind arith

module _ (p : Image) (m : Parts) (h : CurrentFrame p m) where
  pub method_is : method_here m.stack.tasks ≡ h.frame.method
  method_is = by_top p m h (λ us. method_here us ≡ h.frame.method) (λ f ms top. top.frame.method)

  number_is : this m ≡ receiver_number h.frame.receiver
  number_is = by_top p m h (λ us. this_here us ≡ receiver_number h.frame.receiver) (λ f ms top. top.frame.this)

  -- the object that the method works on, and its request
  record Cancels : Type 0 where
    object : Object
    number : this m ≡ object.name
    lives : named h.state.cells object.name ≡ Some object
    request : Request
    own : requested h.state.cells object.name ≡ Some request
    phase : is_cancelling request.phase ≡ true
    cell : is_object object.thing ≡ true
    over : int_eq request.status pending ≡ false

  cancels : (c : Choice) → is_active_kind (own_kind p h.frame.method) ≡ true → is_cancel (method_role p h.frame.method) ≡ true →
      not (hangs p h.frame h.below h.state) ≡ true → Cancels
  cancels c active fills_role ends = method_layer (λ ls. (forms h.state.items ≡ items_of ls) × Good p h.typing h.state.cells ls) h.frame h.below h.typed.layers
      (sym h.typed.tasks ∙ h.top) (h.typed.items, h.typed.good) (λ sh ls rest good.
      let at : At p h.typing h.state h.frame sh ls =
      record { tasks = h.top ∙ ap (λ us. Run h.frame ∷ us) (sym rest); items = good.0; undo_operations = h.typed.undo_operations; good = good.1 } in
      let it = of_object p h.typing (main_of_none p h.wired) c h.state h.frame sh ls at (active_listed (own_kind p h.frame.method) active) in
      let of_it : own_request h.state.cells h.frame.receiver ≡ requested h.state.cells it.object.name = ap (own_request h.state.cells) it.receiver in
      let phase = being_cancelled (own_kind p h.frame.method) _ _ active (ap (λ b. b || (states_claim p it.object ls).cancelled) fills_role) it.conforms_to in
      let request = in_one is_cancelling (own_request h.state.cells h.frame.receiver) phase in
      record {
        object = it.object;
        number = number_is ∙ ap receiver_number it.receiver;
        lives = it.lives;
        request = request.0;
        own = sym of_it ∙ request.1;
        cell = inside_object p m h it.object it.from it.receiver;
        phase = sym (ap (in_phase is_cancelling) request.1) ∙ phase;
        over = sym (ap (λ r. int_eq (status_of r) pending) request.1) ∙ completed _ _ fills_role ends;
      })

  -- as the machine tells it
  reported : Cancels → TopFrameIs m.stack.tasks → IsCancelled Cancel m
  reported it runs =
      let n = it.object.name in
      let stands = h.agrees.requests.stands in (
        runs,
        subst (Lives m.cells) (sym it.number) (ap is_some (cell_of p m.cells h.state.cells n it.object h.agrees.cells it.lives it.cell).1),
        grind (arith, nat_tests, reported_cancelling m.active),
        ap (λ k. is_pending (request_at m.active.table k)) it.number
            ∙ reported_over m.active (requested h.state.cells) (queued p h.state.cells) stands n it.request it.own it.over,
      )

-- what the active objects are asked for as a method returns
module _ (p : Image) (m : Parts) (i : Instr) (a : ℕ) (d : Method_declared) (next : IsNext p i m) (is : transfer_of i ≡ transfer.Return a)
    (found : method_at p (method_here m.stack.tasks) ≡ Some d) where
  cancels_here : d.role ≡ Cancel → IsCancelled Cancel m
  unfolding role_in
  cancels_here role =
      let c = (needs_met p m i next).0 in
      let k = counting next.counts m in
      let h = has_task p k next.stands next.runs in
      let there : method_at p h.frame.method ≡ Some d = ap (method_at p) (sym (method_is p k h)) ∙ found in
      let fills_role : is_cancel (method_role p h.frame.method) ≡ true = ap (λ o. is_cancel (role_in o)) there ∙ ap (λ r. is_cancel (Some r)) role in
      let ends = (all_parts (result_needs p h.frame h.below (counted i (at_step h.state)) (gives_of p h.frame.method) a) _ (return_needs p m i a next is)).1 in
      reported p k h (cancels p k h c (cancels_active p next.stands.1.sound.linked h.frame.method d there role) fills_role ends.1.1.0) next.runs

  pub is_cancelled : IsCancelled d.role m
  is_cancelled = grind (arith, nat_tests, cancels_here)

-- ---- the machine once the cancel is over

pub is_over : (p : Image) (m : Parts) (i : Instr) (a : ℕ) (act : Active) (d : Method_declared) → IsNext p i m → transfer_of i ≡ transfer.Return a →
    method_at p (method_here m.stack.tasks) ≡ Some d → EndsCancel d.role m.active act (this m) → IsOver p m act
unfolding role_in
is_over p m i a act d next is e ends = record { role = d.role; fills_role = ap role_in e; was = is_cancelled p m i a d next is e; ends = ends }

module _ (p : Image) (m : Parts) (h : CurrentFrame p m) where
  abbrev cells : List Cell
  cells = h.state.cells

  abbrev then : List Cell
  then = ended_cells p h.frame cells

  abbrev taken : Option Request
  taken = on_request cancelled (own_request cells h.frame.receiver)

  -- what holds of the cells, and of those with another request, holds of the cells then
  by_ended : (P : List Cell → Type 0) → P cells → ((n : ℕ) (r : Option Request) → P (set_request n r cells)) → P then
  by_ended P same other = go (is_cancel (method_role p h.frame.method))
    where
      asked : (receiver : Receiver) (r : Option Request) → P (request_updated cells receiver r)
      asked (Inside o from) r = other o.name r
      asked _ r = same

      go : (b : Bool) → P (cond b (request_updated cells h.frame.receiver taken) cells)
      go true = asked h.frame.receiver taken
      go false = same

  ended_heap : SameCells p m.cells then
  ended_heap = by_ended (λ cs. SameCells p m.cells cs) h.agrees.cells (λ n r. cells_asked p m.cells cells n r h.agrees.cells)

  -- the cell of such a method is none but its object's
  no_cell : {P : Type 0} → Lives m.cells (this m) → this m ≡ null → P
  no_cell lives none = let clash : true ≡ false = sym lives ∙ ap (λ n. is_some (cell_at m.cells n)) none ∙ ap is_some h.agrees.cells.null_is_none in cc

  -- the requests that the active objects stand for then
  ended_requests : (act : Active) (role : Role) → method_role p h.frame.method ≡ Some role → IsCancelled role m →
      EndsCancel role m.active act (this m) → SameRequests p act then
  ended_requests act Cancel fills_role was ends =
      subst (λ b. SameRequests p act (cond b (request_updated cells h.frame.receiver taken) cells)) (sym (ap is_cancel fills_role)) (go h.frame.receiver refl)
    where
      go : (receiver : Receiver) → h.frame.receiver ≡ receiver → SameRequests p act (request_updated cells receiver (on_request cancelled (own_request cells receiver)))
      go Static is = no_cell was.1 (number_is p m h ∙ ap receiver_number is)
      go AtRoot is = no_cell was.1 (number_is p m h ∙ ap receiver_number is)
      go (Inside o from) is =
          let number : this m ≡ o.name = number_is p m h ∙ ap receiver_number is in
          let stands = h.agrees.requests.stands in
          let phase = sym (reported_cancelling m.active (requested cells) (queued p cells) stands o.name)
          ∙ ap (λ n. is_being_cancelled (request_at m.active.table n)) (sym number) ∙ was.2 in
          let request = in_one is_cancelling (requested cells o.name) phase in
          let after = subst (λ n. RefinesRequests act (asked_anew n (Some (cancelled request.0)) (requested cells)) (queued p cells)) number
          (ends.stands (requested cells) (queued p cells) request.0 stands (ap (requested cells) number ∙ request.1)) in
          let set = requests_set p m.active act cells o (Some (cancelled request.0)) (receiver_held p m h o from is) ends.limit after h.agrees.requests in
          subst (λ r. SameRequests p act (set_request o.name (on_request cancelled r) cells)) (sym request.1) set
  ended_requests act _ fills_role was same = grind (arith, nat_tests)

  -- the machine whose active objects have taken the signal stands for the state then
  pub ended_agrees : (act : Active) → IsOver p m act → Agrees p (record m { active = act }) (record h.state { cells = then })
  ended_agrees act over = record {
    tasks = h.agrees.tasks;
    values = λ r. subst (Represents (value m r) (word_at h.state.tasks r)) (sym ((ended_alike p h.frame cells).held_so r)) (h.agrees.values r);
    cells = ended_heap;
    entries = h.agrees.entries;
    requests = ended_requests act over.role (ap (method_role p) (sym (method_is p m h)) ∙ over.fills_role) over.was over.ends;
    natives = by_ended (λ cs. SameNatives p m.sessions cs h.state.killed) h.agrees.natives
        (λ n r. natives_asked p m.sessions h.state.killed cells n r h.agrees.natives);
    services = services_ended p h.frame cells (receiver_held p m h) h.agrees.services;
    rest = h.agrees.rest;
    room = h.agrees.room;
    entry_room = h.agrees.entry_room;
  }

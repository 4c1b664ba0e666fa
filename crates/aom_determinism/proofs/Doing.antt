-- What an instruction needs and does it needs and does under other names too: its effect is the same under these names, and so is what each effect does.
use Rattle.std.proofs.lemmas.Bool.Decides.{nat_tests}
use Rattle.std.proofs.Common.{arith, Bool, List, Option, [], ap, cond, length, refl, ℕ, ℤ, ◌∙◌, ◌∷◌, ◌≡◌}
use Rattle.std.specs.Prelude.{option_map}
use Rattle.aom_image.specs.Image.{Image}
use Rattle.aom_instructions.specs.declared.instr.Instr.{Instr}
use Rattle.aom_instructions.specs.declared.instr.Instr.TheVariants.{Stop}
use Rattle.aom_instructions.specs.declared.instr.Target.{Target}
use Rattle.aom_instructions.specs.declared.instr.Target.TheVariants.{Entry as On_entry, Field as On_field, Register as On_register, This}
use Rattle.aom_image.specs.declared.method.Gives.{Gives}
use Rattle.aom_clients.specs.declared.client.Client.{Client}
use Rattle.aom_semantics.specs.Calls.{accepted_cells, accepted_clients, answered_by, ended_well, receiver_at}
use Rattle.aom_semantics.specs.Calls.{result_cells, returned, target_receiver, target_view}
use Rattle.aom_semantics.specs.Cleanup.{code_reported, dealt_with, destroyed, to_trap, top_place}
use Rattle.aom_link_conditions.specs.Roles.{destructor_of}
use Rattle.aom_semantics.specs.Destruction.{begun, begun_by, destructed, line_on}
use Rattle.aom_semantics.specs.Effects.{Calls, Cancels, Carried, Destroys, Destroys_last, Effect, Goes_on, Leaves, Made, Popped}
use Rattle.aom_semantics.specs.Effects.{Pushed, Requested, Returns, Sets_trap, Spot, Update, Written, applied}
use Rattle.aom_semantics.specs.Effects.{cancels_if, cells_after, deals, deletes, effect, hands_unless, items_after, jumps_if, jumps_unless, makes_unless}
use Rattle.aom_semantics.specs.Effects.{round, spot_place, Replied, Sessioned, Handed}
use Rattle.aom_semantics.specs.Requests.{cancel_method, ended_cells, in_phase, is_active, own_request, request_updated}
use Rattle.aom_semantics.specs.Moves.{does, needs}
use Rattle.aom_semantics.specs.Places.{Cell, Entry, Object, Place, Register, Request, held, moved}
use Rattle.aom_semantics.specs.State.{An_object, Choice, Dispatch, Frame, Receiver, Item, Run, State, Task, Trapped, receiver_view}
use Rattle.aom_semantics.specs.Words.{loaded, stored}
use Rattle.aom_determinism.proofs.NamedCells.{held_renamed, messages_kept, moved_renamed, order_kept, redeemed_renamed, set_request_renamed}
use Rattle.aom_determinism.proofs.NamedCells.{set_word_field_renamed, tasks_counted, timer_kept, token_kept, word_field_kept, in_session_kept}
use Rattle.aom_determinism.proofs.NamedCells.{set_session_renamed, cond_applied, without_renamed}
use Rattle.aom_determinism.proofs.Serving.{opened_client_renamed, opens_renamed, token_named}
use Rattle.aom_determinism.proofs.Needs.{call_kept, field_renamed, free_at, given_renamed, held_field, kind_kept, leave_kept, message_at}
use Rattle.aom_determinism.proofs.Needs.{own_request_kept, push_kept, pushed_renamed, put_kept, refusal_kept, register_renamed, reply_kept}
use Rattle.aom_determinism.proofs.Needs.{return_kept, take_message_kept, trap_kept, under_trap_kept, view_kept, whole_kept}
use Rattle.aom_determinism.specs.Names.{IsOneToOne, renamed, renamed_cells, renamed_clients, renamed_choice, renamed_dispatch}
use Rattle.aom_determinism.specs.Names.{renamed_frame, renamed_receiver, renamed_object, renamed_place, renamed_tasks}
use Rattle.aom_semantics.specs.Natives.{own_session, session_updated}

-- ---- an effect under other names: a new cell and one that goes have names

module _ (names : ℕ → ℕ) where
  abbrev renamed_update : Update → Update
  renamed_update (Made name class a) = Made (names name) class a
  renamed_update (Handed name a) = Handed (names name) a
  renamed_update u = u

  abbrev renamed_effect : Effect → Effect
  renamed_effect (Goes_on ch) = Goes_on (record ch { update = renamed_update ch.update })
  renamed_effect (Leaves code u) = Leaves code (renamed_update u)
  renamed_effect (Destroys o a words) = Destroys (renamed_object names o) a words
  renamed_effect (Destroys_last o) = Destroys_last (renamed_object names o)
  renamed_effect e = e

-- ---- what is at hand

module _ (names : ℕ → ℕ) where
  begun_by_renamed : (p : Image) (m : Option ℕ) (o : Object) (height : ℕ) (below : List Task) →
      begun_by p m (renamed_object names o) height (renamed_tasks names below) ≡ renamed_tasks names (begun_by p m o height below)
  begun_by_renamed p x o height below = grind (arith, nat_tests, tasks_counted names below)

  pub destructed_renamed : (p : Image) (o : Object) (height : ℕ) (below : List Task) →
      destructed p (renamed_object names o) height (renamed_tasks names below) ≡ renamed_tasks names (destructed p o height below)
  destructed_renamed p o height below = begun_by_renamed p (destructor_of p o.thing) o height below

  pub line_renamed : (p : Image) (m : ℕ) (receiver : Receiver) (height : ℕ) (below : List Task) →
      line_on p m (renamed_receiver names receiver) height (renamed_tasks names below) ≡ renamed_tasks names (line_on p m receiver height below)
  line_renamed p m x height below = grind (arith, nat_tests, begun_by_renamed p)

  pub begun_renamed : (p : Image) (o : Object) (height : ℕ) (below : List Task) →
      begun p (renamed_object names o) height (renamed_tasks names below) ≡ renamed_tasks names (begun p o height below)
  begun_renamed p o height below = grind (arith, nat_tests, destructed_renamed p o height below, cond_applied)

  to_trap_renamed : (ts : List Task) → to_trap (renamed_tasks names ts) ≡ renamed_tasks names (to_trap ts)
  to_trap_renamed (Run fr ∷ ts) = to_trap_renamed ts
  to_trap_renamed _ = refl

  receiver_at_renamed : (o : Option Object) (q : Place) → receiver_at (option_map (renamed_object names) o) (renamed_place names q) ≡ renamed_receiver names (receiver_at o q)
  receiver_at_renamed x q = grind arith

module _ (names : ℕ → ℕ) (one_to_one : IsOneToOne names) where
  -- ---- words of cells

  stored_renamed : (cs : List Cell) (h : Receiver) (w : ℕ) (v : ℤ) → stored (renamed_cells names cs) (renamed_receiver names h) w v ≡ renamed_cells names (stored cs h w v)
  stored_renamed cs x w v = grind (arith, nat_tests, set_word_field_renamed names one_to_one)

  request_updated_renamed : (cs : List Cell) (h : Receiver) (r : Option Request) →
      request_updated (renamed_cells names cs) (renamed_receiver names h) r ≡ renamed_cells names (request_updated cs h r)
  request_updated_renamed cs x r = grind (arith, nat_tests, set_request_renamed names one_to_one)

  -- ---- sessions

  own_session_kept : (cs : List Cell) (h : Receiver) → own_session (renamed_cells names cs) (renamed_receiver names h) ≡ own_session cs h
  own_session_kept cs x = grind (arith, nat_tests, in_session_kept names one_to_one cs)

  session_updated_renamed : (cs : List Cell) (h : Receiver) (session : Bool) →
      session_updated (renamed_cells names cs) (renamed_receiver names h) session ≡ renamed_cells names (session_updated cs h session)
  session_updated_renamed cs x session = grind (arith, nat_tests, set_session_renamed names one_to_one)

  -- ---- what an item is dealt with

  module _ (p : Image) (items : List Item) (ts : List Task) (s : State) where
    destroyed_renamed : (o : Option Object) →
        destroyed p (option_map (renamed_object names) o) items (renamed_tasks names ts) (renamed names s) ≡ renamed names (destroyed p o items ts s)
    destroyed_renamed x = grind (arith, nat_tests, tasks_counted names ts, moved_renamed names one_to_one, begun_renamed names p)

  pub dealt_renamed : (p : Image) (items : List Item) (ts : List Task) (s : State) →
      dealt_with p items (renamed_tasks names ts) (renamed names s) ≡ renamed names (dealt_with p items ts s)
  dealt_renamed p [] ts s = refl
  dealt_renamed p (An_object ∷ items) ts s =
      rw (held_renamed names one_to_one s.cells (Entry (length items)), destroyed_renamed p items ts s (held s.cells (Entry (length items))))
  dealt_renamed p (_ ∷ items) ts s = refl

-- ---- what a method goes on with

module _ (names : ℕ → ℕ) where
  pub reported_renamed : (g : Gives) (a : ℕ) (code : ℤ) (fr : Frame) → code_reported g a code (renamed_frame names fr) ≡ renamed_frame names (code_reported g a code fr)
  reported_renamed x a code fr = grind arith

  -- an answer names no cell
  answered_by_renamed : (answer : ℤ) (d : Dispatch) → answered_by answer (renamed_dispatch names d) ≡ renamed_dispatch names (answered_by answer d)
  answered_by_renamed answer x = grind arith

  -- ---- the end of the method of a dispatch

  ended_well_renamed : (d : Dispatch) → ended_well (renamed_dispatch names d) ≡ renamed_dispatch names (ended_well d)
  ended_well_renamed x = grind arith

  accepted_clients_renamed : (d : Dispatch) (clients : List Client) →
      accepted_clients (renamed_dispatch names d) (renamed_clients names clients) ≡ renamed_clients names (accepted_clients d clients)
  accepted_clients_renamed x clients = grind (arith, nat_tests, opened_client_renamed names)

  accepted_renamed : IsOneToOne names → (d : Dispatch) (from : Place) (cs : List Cell) →
      accepted_cells (renamed_dispatch names d) (renamed_place names from) (renamed_cells names cs) ≡ renamed_cells names (accepted_cells d from cs)
  accepted_renamed one_to_one x from cs = grind (arith, nat_tests, moved_renamed names one_to_one from, opens_renamed names one_to_one)

module _ (names : ℕ → ℕ) (one_to_one : IsOneToOne names) (p : Image) (c : Choice) (fr : Frame) (ts : List Task) (s : State) where
  -- whatever a register has moves to a place
  from_register : (a : ℕ) (q : Place) → moved (Register (length (renamed_tasks names ts)) a)
      (renamed_place names q) (renamed_cells names s.cells) ≡ renamed_cells names (moved (Register (length ts) a) q s.cells)
  from_register a q = grind (arith, nat_tests, tasks_counted names ts, moved_renamed names one_to_one)

  -- ---- returns

  result_cells_renamed : (g : Gives) (a b : ℕ) (below : List Task) → result_cells p (renamed_frame names fr)
      (renamed_tasks names ts) (renamed names s) g a b (renamed_tasks names below) ≡ renamed_cells names (result_cells p fr ts s g a b below)
  result_cells_renamed x a b below = grind (arith, nat_tests, tasks_counted names below, from_register a)

  returned_renamed : (g : Gives) (a : ℕ) (over : List Task) → returned p
      (renamed_frame names fr) (renamed_tasks names ts) (renamed names s) g a (renamed_tasks names over) ≡ renamed names (returned p fr ts s g a over)
  returned_renamed g a x = grind (
    arith,
    nat_tests,
    result_cells_renamed g a,
    tasks_counted names ts,
    accepted_renamed names one_to_one,
    accepted_clients_renamed names,
    ended_well_renamed names,
    answered_by_renamed names,
    line_renamed names p fr.method fr.receiver fr.height,
  )

  -- the cells as a return begins
  ended_renamed : ended_cells p (renamed_frame names fr) (renamed_cells names s.cells) ≡ renamed_cells names (ended_cells p fr s.cells)
  ended_renamed = grind (arith, nat_tests, own_request_kept names one_to_one s.cells fr.receiver, request_updated_renamed names one_to_one s.cells fr.receiver)

module _ (names : ℕ → ℕ) (one_to_one : IsOneToOne names) (p : Image) (c : Choice) (fr : Frame) (ts : List Task) (s : State) where
  abbrev fr' : Frame
  fr' = renamed_frame names fr

  abbrev ts' : List Task
  ts' = renamed_tasks names ts

  abbrev s' : State
  s' = renamed names s

  abbrev c' : Choice
  c' = renamed_choice names c

  -- ---- calls

  target_renamed : (target : Target) (class : Option ℕ) → target_receiver p fr' ts' s' target class ≡ renamed_receiver names (target_receiver p fr ts s target class)
  target_renamed x class =
      grind (arith, nat_tests, tasks_counted names ts, held_renamed names one_to_one s.cells, receiver_at_renamed names, field_renamed names fr.receiver)

  -- it counts as what it counts as under the other names
  elsewhere : (target : Target) (class : Option ℕ) → receiver_view (target_receiver p fr' ts' s' target class) ≡ receiver_view (target_receiver p fr ts s target class)
  elsewhere target class = ap receiver_view (target_renamed target class) ∙ view_kept names (target_receiver p fr ts s target class)

  view_renamed : (target : Target) (class : Option ℕ) → target_view p fr' ts' s' target class ≡ target_view p fr ts s target class
  view_renamed This class = refl
  view_renamed (On_register r) class = elsewhere (On_register r) class
  view_renamed (On_field f) class = elsewhere (On_field f) class
  view_renamed (On_entry k) class = elsewhere (On_entry k) class

  -- ---- what an effect does

  place_renamed : (spot : Spot) → spot_place p fr' ts' s' spot ≡ renamed_place names (spot_place p fr ts s spot)
  place_renamed x = grind (arith, nat_tests, tasks_counted names ts, field_renamed names fr.receiver)

  cells_renamed : (u : Update) → cells_after p fr' ts' s' (renamed_update names u) ≡ renamed_cells names (cells_after p fr ts s u)
  cells_renamed (Carried from to) =
      rw (place_renamed from, place_renamed to, moved_renamed names one_to_one (spot_place p fr ts s from) (spot_place p fr ts s to) s.cells)
  cells_renamed (Made name class a) = rw (tasks_counted names ts)
  cells_renamed (Written w v) = stored_renamed names one_to_one s.cells fr.receiver w v
  cells_renamed (Requested r) = request_updated_renamed names one_to_one s.cells fr.receiver r
  cells_renamed (Sessioned session) = session_updated_renamed names one_to_one s.cells fr.receiver session
  cells_renamed (Replied a code) = grind (
    arith,
    nat_tests,
    register_renamed names one_to_one s.cells ts a,
    token_named names one_to_one s.cells,
    redeemed_renamed names,
    tasks_counted names ts,
    without_renamed names one_to_one,
  )
  cells_renamed (Handed name a) = grind (
    arith,
    nat_tests,
    tasks_counted names ts,
    token_kept names s.cells,
    own_request_kept names one_to_one s.cells fr.receiver,
    request_updated_renamed names one_to_one s.cells fr.receiver,
  )
  cells_renamed (Pushed a) = pushed_renamed names one_to_one p c fr ts s a
  cells_renamed (Popped a) = rw (tasks_counted names ts, moved_renamed names one_to_one (top_place s.items) (Register (length ts) a) s.cells)
  cells_renamed _ = refl

  items_kept : (u : Update) (items : List Item) → items_after (renamed_update names u) items ≡ items_after u items
  items_kept x items = grind arith

  applied_renamed : (e : Effect) → applied p fr' ts' s' (renamed_effect names e) ≡ renamed names (applied p fr ts s e)
  applied_renamed (Goes_on ch) = rw (cells_renamed ch.update, items_kept ch.update s.items)
  applied_renamed (Calls target m first) =
      grind (arith, nat_tests, given_renamed names one_to_one p c fr ts s (Run fr ∷ ts) m first, view_renamed target, target_renamed target)
  applied_renamed (Sets_trap target m first) =
      grind (arith, nat_tests, given_renamed names one_to_one p c fr ts s (Trapped ∷ Run fr ∷ ts) m first, view_renamed target, target_renamed target)
  applied_renamed (Cancels m) =
      grind (arith, nat_tests, own_request_kept names one_to_one s.cells fr.receiver, request_updated_renamed names one_to_one s.cells fr.receiver)
  applied_renamed (Returns g a) = grind (arith, nat_tests, ended_renamed names one_to_one p c fr ts s, returned_renamed names one_to_one p c fr ts)
  applied_renamed (Leaves code u) = rw (cells_renamed u, items_kept u s.items, to_trap_renamed names ts)
  applied_renamed (Destroys o a words) = grind (arith, nat_tests, tasks_counted names ts, moved_renamed names one_to_one, begun_renamed names p o)
  applied_renamed (Destroys_last o) = grind (arith, nat_tests, tasks_counted names ts, moved_renamed names one_to_one, begun_renamed names p o)
  applied_renamed _ = refl

  -- ---- what the effect of an instruction is

  jumps_renamed : (o : Option Object) (to : ℕ) → jumps_unless fr' (option_map (renamed_object names) o) to ≡ renamed_effect names (jumps_unless fr o to)
  jumps_renamed x to = grind arith

  round_renamed : (n depth to : ℕ) → round n depth to ≡ renamed_effect names (round n depth to)
  round_renamed x depth to = grind arith

  -- one effect or the other
  either_renamed : (b : Bool) (x y x' y' : Effect) → x' ≡ renamed_effect names x → y' ≡ renamed_effect names y → cond b x' y' ≡ renamed_effect names (cond b x y)
  either_renamed x y z x' y' e f = grind arith

  -- a jump by the request of what the method works on
  branch_renamed : (test : Option Request → Bool) (to : ℕ) →
      jumps_if fr' (test (own_request s'.cells fr'.receiver)) to ≡ renamed_effect names (jumps_if fr (test (own_request s.cells fr.receiver)) to)
  branch_renamed test to = grind (arith, nat_tests, own_request_kept names one_to_one s.cells fr.receiver, either_renamed)

  -- a request that is active is cancelled
  cancel_renamed : cancels_if fr' (in_phase is_active (own_request s'.cells fr'.receiver)) (cancel_method p fr')
      ≡ renamed_effect names (cancels_if fr (in_phase is_active (own_request s.cells fr.receiver)) (cancel_method p fr))
  cancel_renamed = grind (arith, nat_tests, own_request_kept names one_to_one s.cells fr.receiver)

  -- the last item is dealt with
  dealt_alike : deals fr' s.items (held s'.cells (top_place s.items)) ≡ renamed_effect names (deals fr s.items (held s.cells (top_place s.items)))
  dealt_alike = grind (arith, nat_tests, held_renamed names one_to_one s.cells)

  -- what a word of a field says, what a request or a token is made as, and what a delete does
  loaded_kept : (w : ℕ) → loaded s'.cells fr'.receiver w ≡ loaded s.cells fr.receiver w
  loaded_kept w = grind (arith, nat_tests, word_field_kept)

  made_renamed : (b : Bool) (x a : ℕ) → makes_unless b (names c.name) x a ≡ renamed_update names (makes_unless b c.name x a)
  made_renamed x y a = grind arith

  handed_renamed : (b : Bool) (a : ℕ) (own : Option Request) → hands_unless b (names c.name) a own ≡ renamed_update names (hands_unless b c.name a own)
  handed_renamed x a own = grind arith

  deletes_renamed : (o : Option Object) (a : ℕ) → deletes fr' (option_map (renamed_object names) o) a ≡ renamed_effect names (deletes fr o a)
  deletes_renamed x a = grind arith

  effect_renamed : (i : Instr) → effect p c' fr' ts' s' i ≡ renamed_effect names (effect p c fr ts s i)
  effect_renamed Stop = refl
  -- the others too, each a case of its own
  effect_renamed _ = first_of (
    simp (
      register_renamed names one_to_one s.cells ts,
      held_field names one_to_one s.cells fr.receiver,
      jumps_renamed,
      deletes_renamed,
      made_renamed,
      handed_renamed,
      loaded_kept,
      messages_kept names s.cells,
      order_kept names s.cells,
      timer_kept names s.cells,
      kind_kept names p fr.receiver,
      own_session_kept names one_to_one s.cells fr.receiver,
      own_request_kept names one_to_one s.cells fr.receiver,
    ),
    cc,
    search (round_renamed, either_renamed, cancel_renamed, dealt_alike),
    grind (arith, nat_tests, own_request_kept names one_to_one s.cells fr.receiver, either_renamed),
  )

  -- ---- what an instruction needs

  pub needs_kept : (i : Instr) → needs p c' fr' ts' s' i ≡ needs p c fr ts s i
  needs_kept Stop = refl
  needs_kept _ = first_of (
    simp (
      free_at names one_to_one s.cells ts,
      message_at names one_to_one s.cells ts,
      kind_kept names p fr.receiver,
      own_request_kept names one_to_one s.cells fr.receiver,
      refusal_kept names one_to_one p c fr ts s s.cells,
      leave_kept names s.cells (Run fr ∷ ts),
      whole_kept names one_to_one s.cells s.items,
    ),
    rw (refusal_kept names one_to_one p c fr ts s s.cells, trap_kept names ts),
    search (
      put_kept names one_to_one p c fr ts s,
      push_kept names one_to_one p c fr ts s,
      call_kept names one_to_one p c fr ts s,
      under_trap_kept names one_to_one p c fr ts s,
      return_kept names one_to_one p c fr ts s,
      take_message_kept names one_to_one p c fr ts s,
      reply_kept names one_to_one p c fr ts s,
    ),
    cc,
  )

  pub does_renamed : (i : Instr) → does p c' fr' ts' s' i ≡ renamed names (does p c fr ts s i)
  does_renamed i = ap (applied p fr' ts' s') (effect_renamed i) ∙ applied_renamed (effect p c fr ts s i)

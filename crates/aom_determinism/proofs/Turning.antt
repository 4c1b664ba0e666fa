-- A turn under other names: orders, priorities, times and numbers decide, so the same timer is due first, the same native is polled or killed, the same object
-- is picked, and the lines are the same.
use Rattle.std.proofs.lemmas.Bool.Decides.{nat_tests}
use Rattle.std.proofs.Common.{arith, Bool, List, None, Option, Some, [], ap, refl, ℕ, ℤ, ◌∙◌, ◌∷◌, ◌≡◌, sym}
use Rattle.std.specs.Prelude.{option_map}
use Rattle.aom_image.specs.Image.{Image}
use Rattle.aom_semantics.specs.Places.{Asked, Cell, Close_of, Connect_of, Elsewhere, Going, In_service, Message_of, Object, Queued, Request, Session, held}
use Rattle.aom_semantics.specs.State.{OwnedObject, State}
use Rattle.aom_semantics.specs.World.{Candidate, Completes, Cuts, Observed, Executes, Environment, Picks, Timed, Turning}
use Rattle.aom_semantics.specs.World.{among_ready, answered_by, attended, attending, by_timer}
use Rattle.aom_semantics.specs.World.{first_due, first_ready, has_signal, message_words, next_time}
use Rattle.aom_semantics.specs.World.{nothing_observed, parting_with, picked, picks, pick_line, serves_first}
use Rattle.aom_semantics.specs.World.{taken_from, turn, turned, turning, with_request, written_by, written_turn, AnswersWell}
use Rattle.aom_determinism.proofs.NamedCells.{cell_at_renamed, cond_applied, cond_mapped, each_renamed, held_renamed}
use Rattle.aom_determinism.proofs.NamedCells.{moved_renamed, requested_kept, set_request_renamed, word_field_kept}
use Rattle.aom_determinism.proofs.Commands.{commanded_renamed, refusal_kept}
use Rattle.aom_determinism.proofs.Lines.{serve_kept}
use Rattle.aom_determinism.proofs.Naming.{polling_named, written_named}
use Rattle.aom_determinism.proofs.Doing.{begun_renamed}
use Rattle.aom_determinism.proofs.Serving.{more_kept, service_renamed, takes_renamed}
use Rattle.aom_determinism.proofs.Needs.{guarded_renamed}
use Rattle.aom_determinism.specs.Observing.{is_polling}
use Rattle.aom_determinism.specs.Names.{IsOneToOne, renamed, renamed_cell, renamed_cells, renamed_observed}
use Rattle.aom_determinism.specs.Names.{renamed_object, renamed_outcome, renamed_queue, renamed_owned_object}

module _ (names : ℕ → ℕ) where
  abbrev renamed_timed : Timed → Timed
  renamed_timed x = record { object = renamed_object names x.object; timer = x.timer }

  abbrev renamed_candidate : Candidate → Candidate
  renamed_candidate x = record { owned_object = renamed_owned_object names x.owned_object; request = x.request }

  abbrev renamed_turning : Turning → Turning
  renamed_turning Cuts = Cuts
  renamed_turning (Completes o) = Completes (renamed_object names o)
  renamed_turning (Picks x) = Picks (renamed_owned_object names x)
  renamed_turning (Executes client command name) = Executes client command (names name)
  renamed_turning t = t

  -- ---- timers

  due_renamed : (cs : List Cell) → first_due (renamed_cells names cs) ≡ option_map renamed_timed (first_due cs)
  due_renamed [] = refl
  due_renamed (c ∷ cs) = grind (arith, nat_tests, due_renamed cs)

  -- ---- signals

  signal_kept : (cs : List Cell) → has_signal (renamed_cells names cs) ≡ has_signal cs
  signal_kept [] = refl
  signal_kept (c ∷ cs) = grind (arith, nat_tests, signal_kept cs)

  among_renamed : (c : Cell) (r : Option Request) (others : Option Candidate) →
      among_ready (renamed_cell names c) r (option_map renamed_candidate others) ≡ option_map renamed_candidate (among_ready c r others)
  among_renamed c None others = refl
  among_renamed c (Some r) others = search (arith, nat_tests, more_kept names c.service.queue, cond_mapped)

  ready_renamed : (cs : List Cell) → first_ready (renamed_cells names cs) ≡ option_map renamed_candidate (first_ready cs)
  ready_renamed [] = refl
  ready_renamed (c ∷ cs) = ap (among_ready (renamed_cell names c) c.request) (ready_renamed cs) ∙ among_renamed c c.request (first_ready cs)

  -- ---- what the turn does

  picks_renamed : (signal : Bool) (ready : Option Candidate) (next : Option ℕ) →
      picks signal (option_map renamed_candidate ready) next ≡ renamed_turning (picks signal ready next)
  picks_renamed x ready next = grind (arith, nat_tests)

  -- of a state where all natives are polled
  abbrev picking : Environment → State → Turning
  picking outside s = picks (has_signal s.cells) (first_ready s.cells) (next_time outside s)

  picking_renamed : (outside : Environment) (s : State) → picking outside (renamed names s) ≡ renamed_turning (picking outside s)
  picking_renamed outside s = grind (arith, nat_tests, signal_kept s.cells, ready_renamed s.cells, due_renamed, picks_renamed)

  by_timer_renamed : (s : State) (x : Option Timed) (after : Turning) →
      by_timer s (option_map renamed_timed x) (renamed_turning after) ≡ renamed_turning (by_timer s x after)
  by_timer_renamed s x after = grind (arith, nat_tests, cond_applied)

  pub turning_renamed : (outside : Environment) (observed : Observed) (s : State) →
      turning outside (renamed_observed names observed) (renamed names s) ≡ renamed_turning (turning outside observed s)
  turning_renamed outside observed s = grind (arith, nat_tests, picking_renamed, due_renamed, by_timer_renamed, cond_applied)

  polling_renamed : (t : Turning) → is_polling (renamed_turning t) ≡ is_polling t
  polling_renamed x = grind arith

  -- a native is polled under other names too
  pub polling_kept : (outside : Environment) (s : State) →
      is_polling (turning outside nothing_observed (renamed names s)) ≡ is_polling (turning outside nothing_observed s)
  polling_kept outside s = sym (polling_named outside nothing_observed (names 0) (renamed names s))
      ∙ ap is_polling (turning_renamed outside nothing_observed s) ∙ polling_renamed (turning outside nothing_observed s)

module _ (names : ℕ → ℕ) (one_to_one : IsOneToOne names) where
  -- ---- where it leads

  request_renamed : (f : Request → Request) (o : Object) (cs : List Cell) →
      with_request f (renamed_object names o) (renamed_cells names cs) ≡ renamed_cells names (with_request f o cs)
  request_renamed f o cs = grind (arith, nat_tests, requested_kept names one_to_one cs o.name, set_request_renamed names one_to_one o.name)

  -- ---- the dispatch of a server

  taken_from_renamed : (n : ℕ) (s : State) → taken_from (names n) (renamed names s) ≡ renamed names (taken_from n s)
  taken_from_renamed n s = ap (λ cs. record (taken_from (names n) (renamed names s)) { cells = cs }) (takes_renamed names one_to_one n s.cells)

  words_kept : (cs : List Cell) (m : ℕ) → message_words (renamed_cells names cs) (names m) ≡ message_words cs m
  words_kept cs m = grind (arith, nat_tests, word_field_kept)

  attending_renamed : (method : Option ℕ) (x : OwnedObject) (c : ℕ) (o : Object) (m : ℕ) (s : State) →
      attending method (renamed_owned_object names x) c (renamed_object names o) (names m) (renamed names s) ≡ renamed_outcome names (attending method x c o m s)
  attending_renamed None x c o m s = refl
  attending_renamed (Some method) x c o m s =
      rw (words_kept s.cells m, moved_renamed names one_to_one (Elsewhere (Queued x.object.name m)) (Elsewhere In_service) s.cells)

  attended_renamed : (p : Image) (x : OwnedObject) (c : ℕ) (o : Option Object) (m : ℕ) (s : State) →
      attended p (renamed_owned_object names x) c (option_map (renamed_object names) o) (names m) (renamed names s) ≡ renamed_outcome names (attended p x c o m s)
  attended_renamed p x c y m s = grind (arith, nat_tests, attending_renamed)

  parting_renamed : (p : Image) (x : OwnedObject) (c : ℕ) (o : Option Object) (s : State) →
      parting_with p (renamed_owned_object names x) c (option_map (renamed_object names) o) (renamed names s) ≡ renamed_outcome names (parting_with p x c o s)
  parting_renamed p x c y s =
      grind (arith, nat_tests, moved_renamed names one_to_one (Elsewhere (Session x.object.name c)) (Going 1) s.cells, begun_renamed names p)

  -- the session of a client
  session_renamed : (n c : ℕ) (cs : List Cell) →
      held (renamed_cells names cs) (Elsewhere (Session (names n) c)) ≡ option_map (renamed_object names) (held cs (Elsewhere (Session n c)))
  session_renamed n c cs = held_renamed names one_to_one cs (Elsewhere (Session n c))

  serves_renamed : (p : Image) (x : OwnedObject) (es : List Asked) (s : State) →
      serves_first p (renamed_owned_object names x) (renamed_queue names es) (renamed names s) ≡ renamed_outcome names (serves_first p x es s)
  serves_renamed p x [] s = refl
  serves_renamed p x (Connect_of c ∷ es) s = grind (arith, nat_tests, taken_from_renamed x.object.name s)
  serves_renamed p x (Message_of c m ∷ es) s =
      grind (arith, nat_tests, session_renamed x.object.name c s.cells, taken_from_renamed x.object.name s, attended_renamed p x c)
  serves_renamed p x (Close_of c ∷ es) s =
      grind (arith, nat_tests, session_renamed x.object.name c s.cells, taken_from_renamed x.object.name s, parting_renamed p x c)

  picked_renamed : (p : Image) (x : OwnedObject) (s : State) → picked p (renamed_owned_object names x) (renamed names s) ≡ renamed_outcome names (picked p x s)
  picked_renamed p x s = grind (arith, nat_tests, service_renamed names one_to_one s.cells x.object.name, serves_renamed p x, request_renamed, cond_applied)

  -- a native completes what a cell has outstanding, or is killed
  answered_renamed : (p : Image) (n : ℕ) (c : Option Cell) (code : ℤ) (s : State) →
      answered_by p n (option_map (renamed_cell names) c) code (renamed names s) ≡ renamed_outcome names (answered_by p n c code s)
  answered_renamed p n None code s = refl
  answered_renamed p n (Some c) code s = grind (arith, nat_tests, request_renamed, guarded_renamed names)

  turned_renamed : (p : Image) (s : State) (t : Turning) → turned p (renamed names s) (renamed_turning names t) ≡ renamed_outcome names (turned p s t)
  turned_renamed p s x = grind (arith, nat_tests, request_renamed, each_renamed, cell_at_renamed, answered_renamed, picked_renamed, commanded_renamed)

  pub turns_so : (p : Image) (outside : Environment) (observed : Observed) (s : State) →
      turn p outside (renamed_observed names observed) (renamed names s) ≡ renamed_outcome names (turn p outside observed s)
  turns_so p outside observed s = ap (turned p (renamed names s)) (turning_renamed names outside observed s) ∙ turned_renamed p s (turning outside observed s)

  -- what it may hear
  answers_kept : (p : Image) (s : State) (t : Turning) → AnswersWell p s t → AnswersWell p (renamed names s) (renamed_turning names t)
  answers_kept p s x well = grind (arith, nat_tests, cell_at_renamed names s.cells)

  pub answers_so : (p : Image) (outside : Environment) (observed : Observed) (s : State) → AnswersWell p s (turning outside observed s) →
      AnswersWell p (renamed names s) (turning outside (renamed_observed names observed) (renamed names s))
  answers_so p outside observed s well = grind (arith, nat_tests, turning_renamed names outside observed s, answers_kept p s)

  -- ---- what it writes

  -- of an object, or of a server for the first of its queue
  pick_kept : (p : Image) (s : State) (o : Object) → pick_line p (renamed names s) (renamed_object names o) ≡ pick_line p s o
  pick_kept p s o = grind (arith, nat_tests, service_renamed names one_to_one s.cells o.name, serve_kept names s.rest.clock o.thing, requested_kept)

  by_kept : (p : Image) (s : State) (t : Turning) → written_by p (renamed names s) (renamed_turning names t) ≡ written_by p s t
  by_kept p s (Picks x) = pick_kept p s x.object
  by_kept p s x = grind (arith, nat_tests, refusal_kept names one_to_one p)

  pub writes_turn_so : (p : Image) (outside : Environment) (s : State) → written_turn p outside (renamed names s) ≡ written_turn p outside s
  writes_turn_so p outside s = sym (written_named p outside nothing_observed (names 0) (renamed names s))
      ∙ ap (written_by p (renamed names s)) (turning_renamed names outside nothing_observed s) ∙ by_kept p s (turning outside nothing_observed s)

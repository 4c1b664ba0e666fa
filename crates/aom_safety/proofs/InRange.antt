-- Only registers that a method has come to own: an instruction names no other, and arguments come to the first ones.
use Rattle.std.proofs.lemmas.Bool.Decides.{nat_tests}
use Rattle.aom_semantics.specs.World.{observed_one, taken_from, Observed, Environment, turn}
use Rattle.aom_safety.proofs.Turned.{executes, handles, accepts, attends, parts, completes, keeps_all, kills, picks, turns_so}
use Rattle.std.proofs.Common.{Bool, List, Option, [], arith, cond, length, subst, suc, ℕ, ℤ, ◌+◌, ◌∷◌, ◌≡◌, ◌≤◌, sym}
use Rattle.aom_image.specs.Image.{Image}
use Rattle.aom_image.specs.declared.method.Argument.{Argument}
use Rattle.aom_image.specs.declared.method.Argument.TheVariants.{Own as Takes_own, Word as Takes_word}
use Rattle.aom_image.specs.declared.method.Gives.{Gives}
use Rattle.aom_safety.proofs.Fitting.{EffectFits, UpdateFits, fits}
use Rattle.aom_safety.proofs.Moving.{steps_are_moves}
use Rattle.aom_safety.specs.Steps.{Acts, Arrives, Clears, Comes_out, Empties, Ends, Move, Rests, Undoes, Reclaims}
use Rattle.aom_safety.proofs.Guarded.{acts_at}
use Rattle.aom_semantics.specs.Calls.{passed_cells, returned}
use Rattle.aom_semantics.specs.Tokens.{all_redeemed}
use Rattle.aom_semantics.specs.Effects.{Effect, Update, applied, cells_after}
use Rattle.aom_semantics.specs.Requests.{request_updated}
use Rattle.aom_safety.specs.Laws.{IsWired, RegistersKeep}
use Rattle.aom_semantics.specs.Moves.{counted, dispatch_ends, step}
use Rattle.aom_semantics.specs.Places.{Service, set_service, Session, In_service, Queued, Cell, Elsewhere, Entry, Going, Place}
use Rattle.aom_semantics.specs.Places.{Request, moved, set_request, set_word_field, without, set_session}
use Rattle.aom_safety.specs.Registers.{AllInRange, IsInRange}
use Rattle.aom_semantics.specs.State.{Choice, Dispatch, Frame, Goes, Receiver, State, Task}
use Rattle.aom_semantics.specs.Natives.{all_detached, session_updated}
use Rattle.aom_semantics.specs.Servers.{withdrawn, without_queue, is_queue_of, all_slot_released}
use Rattle.aom_semantics.specs.Clients.{each_slot_released, commanded}
use Rattle.aom_transcript.specs.declared.event.ClientCommand.{ClientCommand}

move_in_range : (p q : Place) (cs : List Cell) → IsInRange q → AllInRange cs → AllInRange (moved p q cs)
move_in_range p q [] fits all = tt
move_in_range p q (c ∷ cs) fits all = (grind (arith, nat_tests, fits), move_in_range p q cs fits all.1)

end_in_range : (p : Place) (cs : List Cell) → AllInRange cs → AllInRange (without p cs)
end_in_range p [] all = tt
end_in_range p (c ∷ cs) all = grind (arith, nat_tests, end_in_range p cs all.1)

write_in_range : (n w : ℕ) (v : ℤ) (cs : List Cell) → AllInRange cs → AllInRange (set_word_field n w v cs)
write_in_range n w v [] all = tt
write_in_range n w v (c ∷ cs) all = (all.0, write_in_range n w v cs all.1)

asks_in_range : (n : ℕ) (r : Option Request) (cs : List Cell) → AllInRange cs → AllInRange (set_request n r cs)
asks_in_range n r [] all = tt
asks_in_range n r (c ∷ cs) all = (all.0, asks_in_range n r cs all.1)

opens_in_range : (n : ℕ) (session : Bool) (cs : List Cell) → AllInRange cs → AllInRange (set_session n session cs)
opens_in_range n session [] all = tt
opens_in_range n session (c ∷ cs) all = (all.0, opens_in_range n session cs all.1)

detached_in_range : (p : Image) (n : ℕ) (cs : List Cell) → AllInRange cs → AllInRange (all_detached p n cs)
detached_in_range p n [] all = tt
detached_in_range p n (c ∷ cs) all = (all.0, detached_in_range p n cs all.1)

redeemed_in_range : (order : ℕ) (code : ℤ) (cs : List Cell) → AllInRange cs → AllInRange (all_redeemed order code cs)
redeemed_in_range order code [] all = tt
redeemed_in_range order code (c ∷ cs) all = (all.0, redeemed_in_range order code cs all.1)

-- what clients have at cells changes no owner but where a message goes
serve_in_range : (n : ℕ) (v : Service) (cs : List Cell) → AllInRange cs → AllInRange (set_service n v cs)
serve_in_range n v [] all = tt
serve_in_range n v (c ∷ cs) all = (all.0, serve_in_range n v cs all.1)

fewer_in_range : (b : Bool) (c : Cell) (cs : List Cell) → IsInRange c.owner → AllInRange cs → AllInRange (cond b cs (c ∷ cs))
fewer_in_range x c cs fits all = grind (arith, nat_tests, fits)

withdrawn_in_range : (client : ℕ) (cs : List Cell) → AllInRange cs → AllInRange (withdrawn client cs)
withdrawn_in_range client [] all = tt
withdrawn_in_range client (c ∷ cs) all = grind (arith, nat_tests, fewer_in_range, withdrawn_in_range client cs all.1)

dequeued_in_range : (n : ℕ) (cs : List Cell) → AllInRange cs → AllInRange (without_queue n cs)
dequeued_in_range n [] all = tt
dequeued_in_range n (c ∷ cs) all = fewer_in_range (is_queue_of n c.owner) c (without_queue n cs) all.0 (dequeued_in_range n cs all.1)

slot_released_in_range : (client : ℕ) (cs : List Cell) → AllInRange cs → AllInRange (all_slot_released client cs)
slot_released_in_range client [] all = tt
slot_released_in_range client (c ∷ cs) all = (all.0, slot_released_in_range client cs all.1)

each_slot_released_in_range : (clients : List ℕ) (cs : List Cell) → AllInRange cs → AllInRange (each_slot_released clients cs)
each_slot_released_in_range [] cs all = all
each_slot_released_in_range (c ∷ clients) cs all = each_slot_released_in_range clients (all_slot_released c cs) (slot_released_in_range c cs all)

-- the result of a call comes to a register that the call names
module _ (p : Image) (wired : IsWired p) (fr : Frame) (ts : List Task) (s : State) (all : AllInRange s.cells) where
  request_in_range : (receiver : Receiver) (r : Option Request) → AllInRange (request_updated s.cells receiver r)
  request_in_range x r = grind (arith, nat_tests, asks_in_range)

  session_in_range : (receiver : Receiver) (session : Bool) → AllInRange (session_updated s.cells receiver session)
  session_in_range x session = grind (arith, nat_tests, opens_in_range)

  update_in_range : (u : Update) → UpdateFits p u → AllInRange (cells_after p fr ts s u)
  update_in_range x fits = grind (arith, nat_tests, move_in_range, fits, write_in_range, request_in_range, session_in_range, end_in_range, redeemed_in_range)

  pass_in_range : (depth : ℕ) (xs : List Argument) (first to : ℕ) (cs : List Cell) → to + length xs ≤ 16 → AllInRange cs →
      AllInRange (passed_cells p fr ts s depth xs first to cs)
  pass_in_range depth [] first to cs few all = all
  pass_in_range depth (Takes_word ∷ xs) first to cs few all = pass_in_range depth xs (suc first) (suc to) cs (omega arith) all
  pass_in_range depth (Takes_own t ∷ xs) first to cs few all = grind (arith, nat_tests, pass_in_range depth xs, move_in_range)

  return_in_range : (g : Gives) (a : ℕ) (below : List Task) → AllInRange (returned p fr ts s g a below).cells
  return_in_range g a x = grind (arith, nat_tests, serve_in_range, move_in_range)

module _ (p : Image) (wired : IsWired p) (fr : Frame) (ts : List Task) (s : State) (all : AllInRange s.cells) where
  apply_in_range : (e : Effect) → EffectFits p e → AllInRange (applied p fr ts s e).cells
  apply_in_range x fits = grind (arith, nat_tests, update_in_range, fits, pass_in_range, request_in_range, return_in_range, move_in_range)

-- a session goes before its server
dispatch_in_range : (p : Image) (d : Dispatch) (s : State) → AllInRange s.cells → AllInRange (dispatch_ends p d s).cells
dispatch_in_range p x s all = grind (arith, nat_tests, move_in_range, end_in_range, serve_in_range)

-- what clients do
module _ (p : Image) (client : ℕ) (s : State) (all : AllInRange s.cells) where
  commands_in_range : (command : ClientCommand) (name : ℕ) → AllInRange (commanded p client s command name).cells
  commands_in_range x name = grind (arith, nat_tests, serve_in_range, withdrawn_in_range)

moves : (p : Image) → IsWired p → (c : Choice) (s u : State) → AllInRange s.cells → step p c s ≡ Goes u → AllInRange u.cells
moves p wired c s u all e = of (steps_are_moves p c s u e)
  where
    along : (v : State) → u ≡ v → AllInRange v.cells → AllInRange u.cells
    along v same h = subst (λ v. AllInRange v.cells) (sym same) h

    of : Move p c s u → AllInRange u.cells
    of (Acts fr ts i x at there met may same) =
        let a = acts_at p c s u fr ts i at there e in
        let named = wired.operands fr.method fr.place i there in
        along _ (sym a.1) (grind (arith, nat_tests, apply_in_range, fits))
    of (Reclaims ts o at there none same) = along _ same (grind (arith, nat_tests, each_slot_released_in_range, end_in_range, dequeued_in_range))
    of (Empties ts o at there same) = along _ same (grind (arith, nat_tests, move_in_range))
    of (Clears code ts items o at top there same) = along _ same (move_in_range (Entry (length items)) (Going (suc (length ts))) s.cells tt all)
    of (Ends d ts at same) = along _ same (dispatch_in_range p d (counted p s) all)
    -- the others change no cell
    of (Rests still same) = along _ same all
    of (Undoes code ts items m w at top same) = along _ same all
    of (Arrives code fr ts items at top same) = along _ same all
    of (Comes_out code d ts items at top same) = along _ same all

turns : (p : Image) (outside : Environment) (observed : Observed) (s u : State) → AllInRange s.cells → turn p outside observed s ≡ Goes u → AllInRange u.cells
turns p outside observed s u all e = elim (turns_so p outside observed s u e) as (λ v d. AllInRange v.cells) [
  | keeps_all r ↦ all
  | completes code o r other ↦ asks_in_range o.name _ s.cells all
  | kills n r k ↦ detached_in_range p n s.cells all
  | executes client command name ↦ commands_in_range p client (observed_one s) all command name
  | picks x v d ↦ elim d as (λ v d. AllInRange v.cells) [
    | handles m at ↦ asks_in_range x.object.name _ s.cells all
    | accepts client m at ↦ serve_in_range x.object.name _ s.cells all
    | attends client message m o there at ↦ move_in_range (Elsewhere (Queued x.object.name message)) (Elsewhere In_service)
        (taken_from x.object.name s).cells tt (serve_in_range x.object.name _ s.cells all)
    | parts client o there ↦ move_in_range (Elsewhere (Session x.object.name client)) (Going 1) (taken_from x.object.name s).cells tt
        (serve_in_range x.object.name _ s.cells all)
  ]
]

pub registers_keep : RegistersKeep
registers_keep = record { boot = λ p. tt; moves = moves; turns = turns }

-- Each run of an image that has a typing: every state that it comes to is well typed, and where it ended nothing is at hand.
use Rattle.std.proofs.lemmas.Bool.Decides.{nat_tests}
use Rattle.aom_safety.proofs.ClientsKeep.{clients_keep}
use Rattle.aom_safety.specs.Kept.{StateInvariant}
use Rattle.aom_safety.proofs.Signals.{signals_are_ready}
use Rattle.aom_safety.proofs.Turning.{turn_goes_on}
use Rattle.std.proofs.Common.{arith, List, None, Some, [], inl, inr, refl, subst, sym, ⊎_elim, ◌∙◌, ◌∷◌, ◌≡◌}
use Rattle.std.specs.Prelude.{◌⊎◌}
use Rattle.aom_image.specs.Image.{Image}
use Rattle.aom_typing_rules.specs.Typing.{IsTyped, Typing}
use Rattle.aom_safety.proofs.Booting.{boot_keeps}
use Rattle.aom_safety.proofs.Closing.{root_gone}
use Rattle.aom_safety.proofs.InRange.{registers_keep}
use Rattle.aom_safety.proofs.Moving.{steps_are_moves}
use Rattle.aom_safety.proofs.Owners.{ends_empty, ends_owned}
use Rattle.aom_safety.proofs.Quiet.{quiet_preserved, caught_owned}
use Rattle.aom_safety.proofs.Resting.{IsEnd, Takes, course_ended, move_rest}
use Rattle.aom_safety.proofs.Steps.{step_keeps}
use Rattle.aom_semantics.specs.Destruction.{gone}
use Rattle.aom_safety.specs.Laws.{IsSound, IsWired}
use Rattle.aom_semantics.specs.Moves.{IsOpen, step}
use Rattle.aom_semantics.specs.Places.{Elsewhere, Root, held}
use Rattle.aom_safety.specs.Quiet.{OnlyQuietRun}
use Rattle.aom_safety.specs.Registers.{AllInRange}
use Rattle.aom_semantics.specs.State.{Choice}
use Rattle.aom_semantics.specs.State.{Dispatched, Goes, Of_root, Outcome, State, Task}
use Rattle.aom_safety.specs.Steps.{Move}
use Rattle.aom_safety.specs.WellTyped.{Good, PreservesTyping, WellTyped}
use Rattle.aom_semantics.specs.World.{Observed, IsBetween, IsBusy, Environment, Reaches, Turning, begins, boot_state, moves, turn, turned, turning, turns}
use Rattle.aom_transcript.specs.declared.line.Ending.{Ending}
use Rattle.aom_transcript.specs.declared.line.Ending.TheVariants.{Stopped}
use Rattle.aom_transcript.specs.declared.line.Line.{Line}
use Rattle.aom_safety.proofs.Layers.{dispatch_layer}

-- nothing is at hand, and where the run is over as stopped the root holds nothing
record IsAtRest (s : State) : Type 0 where
  idle : s.tasks ≡ []
  rootless : s.rest.ended ≡ Some Stopped → held s.cells (Elsewhere Root) ≡ None

-- the run is not over, or nothing is at hand
abbrev GoesOn : State → Type 0
GoesOn s = (s.rest.ended ≡ None) ⊎ IsAtRest s

-- at the end of a run the root is gone
abbrev RootRemoved : State → Type 0
RootRemoved s = (ts : List Task) → s.tasks ≡ Dispatched Of_root ∷ ts → held s.cells (Elsewhere Root) ≡ None

-- a move ends the run only where it leaves nothing at hand
move_holds : (p : Image) (c : Choice) (s u : State) → RootRemoved s → Move p c s u → (u.rest.ended ≡ s.rest.ended) ⊎ IsAtRest u
move_holds p c s u gone m = grind (arith, nat_tests, move_rest p c s u m, Takes p s u ⊎ IsEnd p s u, IsEnd p s u, course_ended)

-- a turn ends the run with nothing at hand
turn_holds : (p : Image) (outside : Environment) (observed : Observed) (s u : State) → IsBetween s → turn p outside observed s ≡ Goes u → GoesOn u
turn_holds p outside observed s u between e = go (turning outside observed s) e
  where
    go : (k : Turning) → turned p s k ≡ Goes u → GoesOn u
    go k e = grind arith

busy_open : (s : State) → IsBusy s → GoesOn s → s.rest.ended ≡ None
busy_open s busy x = grind arith

-- by the layers
root_removed_so : (p : Image) (t : Typing) (s : State) → WellTyped p t s → RootRemoved s
root_removed_so p t s w ts e = dispatch_layer (λ ls. Good p t s.cells ls) Of_root ts w.layers (sym w.tasks ∙ e) w.good (λ owned_chain ls _ good. root_gone p t s owned_chain ls good)

module _ (p : Image) (t : Typing) (outside : Environment) (wired : IsWired p) (typed : IsTyped p t) where
  -- what holds of each state of a run
  record Stays (s : State) : Type 0 where
    well : WellTyped p t s
    only_quiet : OnlyQuietRun p s.tasks
    in_range : AllInRange s.cells
    kept : StateInvariant p s
    goes_on : GoesOn s

  moved_on : (s u : State) (c : Choice) → Stays s → IsBusy s → IsOpen p outside.refused c s → step p c s ≡ Goes u → Stays u
  moved_on s u c h busy choice e = record {
    well = subst (λ o. PreservesTyping p t o) e (step_keeps p t wired typed c s h.well choice.name);
    only_quiet = quiet_preserved.moves p t wired typed c s u h.well h.only_quiet e;
    in_range = registers_keep.moves p wired c s u h.in_range e;
    kept = clients_keep.moves p t wired typed c s u h.well choice.name h.kept e;
    goes_on = ⊎_elim (λ same. inl (same ∙ busy_open s busy h.goes_on)) (λ idle. inr idle)
        (move_holds p c s u (root_removed_so p t s h.well) (steps_are_moves p c s u e));
  }

  stays : (lines : List Line) (s : State) → Reaches p outside (boot_state p) lines s → Stays s
  stays _ _ begins =
      record { well = boot_keeps p t wired typed; only_quiet = quiet_preserved.boot p; in_range = registers_keep.boot p; kept = clients_keep.boot p; goes_on = inl refl }
  stays _ _ (moves {lines = lines} {s = s} {u = u} c before busy choice e) = moved_on s u c (stays lines s before) busy choice e
  stays _ _ (turns {lines = lines} {s = s} {u = u} observed before between well e) = let h = stays lines s before in record {
    well = subst (λ o. PreservesTyping p t o) e (turn_goes_on p t outside wired typed observed s h.well between well h.kept.fit);
    only_quiet = quiet_preserved.turns p wired outside observed s u h.only_quiet e;
    in_range = registers_keep.turns p outside observed s u h.in_range e;
    kept = clients_keep.turns p t outside wired typed observed s u h.well between well h.kept e;
    goes_on = turn_holds p outside observed s u between e;
  }

  goes : (o : Outcome) → PreservesTyping p t o → (u : State) × (o ≡ Goes u)
  goes o k = grind arith

  over : (s : State) (ending : Ending) → Stays s → s.rest.ended ≡ Some ending → IsAtRest s
  over s ending h e = grind (arith, nat_tests)

  -- where a run is over nothing is at hand
  pub over_idle : (lines : List Line) (s : State) (ending : Ending) → Reaches p outside (boot_state p) lines s → s.rest.ended ≡ Some ending → s.tasks ≡ []
  over_idle lines s ending r e = (over s ending (stays lines s r) e).idle

  pub sound : IsSound p outside
  sound = record {
    goes_on = λ lines s r busy c choice. goes (step p c s) (step_keeps p t wired typed c s (stays lines s r).well choice.name);
    turns_on = λ lines s r between observed well. goes (turn p outside observed s) (grind (arith, nat_tests, turn_goes_on, stays, well));
    rests = λ lines s r idle. (signals_are_ready p t s (stays lines s r).well).1 idle;
    ends_at_rest = λ lines s d r e. (signals_are_ready p t s (stays lines s r).well).0 d e;
    caught = λ lines s code tasks items r at top. let h = stays lines s r in caught_owned p t wired s h.well h.only_quiet h.in_range code tasks items at top;
    owned = λ lines s d r e. let h = stays lines s r in (ends_owned p t wired s h.well h.in_range).0 d e;
    stopped_empty = λ lines s r e.
        let h = stays lines s r in
        let settled = over s Stopped h e in
        ends_empty p t wired s h.well settled.idle (settled.rootless e);
  }

pub typed_is_sound : (p : Image) (t : Typing) (outside : Environment) → IsWired p → IsTyped p t → IsSound p outside
typed_is_sound p t outside wired typed = sound p t outside wired typed

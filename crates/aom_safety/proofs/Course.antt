-- The course of a leave on a run: which entries it has dealt with, and that its code arrives.
use Rattle.std.proofs.lemmas.Bool.Decides.{nat_tests}
use Rattle.aom_safety.proofs.Turning.{turn_goes_on}
use Rattle.std.proofs.Common.{arith, [], List, append-nil, append_assoc, inl, inr, length, refl, subst, sym, ℤ, ◌∙◌, ◌∷◌, ◌≡◌, ◌≢◌}
use Rattle.std.specs.Prelude.{◌++◌, ◌⊎◌}
use Rattle.aom_image.specs.Image.{Image}
use Rattle.aom_typing_rules.specs.Typing.{IsTyped, Typing}
use Rattle.aom_safety.proofs.Booting.{boot_keeps}
use Rattle.aom_safety.proofs.Caught.{arrives as arrives_so, begins as begins_so, deals as deals_so, ends as ends_so, splits}
use Rattle.aom_safety.proofs.Clearing.{works_kept}
use Rattle.aom_safety.proofs.Steps.{step_keeps}
use Rattle.aom_safety.proofs.ClientsKeep.{clients_keep}
use Rattle.aom_safety.specs.Kept.{StateInvariant}
use Rattle.aom_safety.specs.Laws.{IsWired}
use Rattle.aom_safety.specs.Leaves.{HasArrived, IsLeaving, IsOver, LeavesArrive, LeavesMove, StillLeaves, Unwinds, deals, leaves, works}
use Rattle.aom_semantics.specs.Moves.{IsOpen, step}
use Rattle.aom_semantics.specs.State.{Closing, A_mark, Choice, Destroy, Goes, Item, Run, State, Task, Unwind}
use Rattle.aom_safety.specs.WellTyped.{PreservesTyping, WellTyped}
use Rattle.aom_semantics.specs.World.{IsBetween, IsBusy, Reaches, begins, moves, turn, turns, Environment, Observed, ObservesWell}
use Rattle.aom_transcript.specs.declared.line.Line.{Line}

pub leaves_move : LeavesMove
leaves_move = record {
  begins = begins_so;
  works = λ p t wired typed c s u w code below entries items l other e. (works_kept p t wired typed c s u w code below entries items l other e).0;
  deals = deals_so;
  arrives = arrives_so;
  ends = ends_so;
}

-- well typed, and what clients are at is kept
abbrev pub WellKept : Image → Typing → State → Type 0
WellKept p t s = WellTyped p t s × StateInvariant p s

module _ (p : Image) (t : Typing) (outside : Environment) (wired : IsWired p) (typed : IsTyped p t) where
  pub well_on : (from : State) → WellKept p t from → (lines : List Line) (s : State) → Reaches p outside from lines s → WellKept p t s
  well_on from w _ _ begins = w
  well_on from w _ _ (moves {lines = lines} {s = s} {u = u} c before busy choice e) =
      let b = well_on from w lines s before in
      (subst (λ o. PreservesTyping p t o) e (step_keeps p t wired typed c s b.0 choice.name), clients_keep.moves p t wired typed c s u b.0 choice.name b.1 e)
  well_on from w _ _ (turns {lines = lines} {s = s} {u = u} observed before between well e) =
      let b = well_on from w lines s before in
      (grind (arith, nat_tests, turn_goes_on), clients_keep.turns p t outside wired typed observed s u b.0 between well b.1 e)

  module _ (from : State) (well : WellKept p t from) (code : ℤ) (below : List Task) (entries items : List Item) where
    abbrev Course : State → Type 0
    Course s = StillLeaves p code below entries items from s ⊎ HasArrived p outside code below entries items from s

    -- something is over the leave
    goes_on : (s u : State) (c : Choice) → WellTyped p t s → StillLeaves p code below entries items from s → s.tasks ≢ Unwind code ∷ below →
        step p c s ≡ Goes u → Course u
    goes_on s u c w h other e =
        let r = works_kept p t wired typed c s u w code below h.rest items h.leaving other e in
        inl (record { dealt = h.dealt; rest = h.rest; all = h.all; course = works c h.course other e r.1; leaving = r.0 })

    -- the leave itself moves
    leave_moves : (s u : State) (c : Choice) → WellTyped p t s → (dealt rest : List Item) → entries ≡ dealt ++ rest →
        Unwinds p code below from dealt s → IsLeaving p code below rest items s → s.tasks ≡ Unwind code ∷ below → step p c s ≡ Goes u → Course u
    leave_moves s u c w dealt [] all course l at e = inr (record {
      last = s;
      course = subst (λ is. Unwinds p code below from is s) (sym (all ∙ append-nil dealt)) course;
      choice = c;
      after = u;
      move = e;
      arrives = arrives_so p t c s u w code below items l at e;
      lines = [];
      reaches = begins;
    })
    leave_moves s u c w dealt (i ∷ rest) all course l at e =
        let r = deals_so p t wired c s u w code below i rest items l at e in
        inl (record {
          dealt = dealt ++ (i ∷ []);
          rest = rest;
          all = all ∙ sym (append_assoc dealt (i ∷ []) rest);
          course = deals c i (rest ++ (A_mark ∷ items)) course at l.stack e r.0.stack r.1;
          leaving = r.0;
        })

    still : (s u : State) (c : Choice) → WellTyped p t s → StillLeaves p code below entries items from s → step p c s ≡ Goes u → Course u
    still s u c w h e = go s.tasks refl h.leaving.over
      where
        go : (ts : List Task) → s.tasks ≡ ts → IsOver p (length s.items) code below ts → Course u
        go (Run fr ∷ ts) at o = goes_on s u c w h (λ top. let clash : Run fr ∷ ts ≡ Unwind code ∷ below = sym at ∙ top in cc) e
        go (Destroy ∷ ts) at o = goes_on s u c w h (λ top. let clash : Destroy ∷ ts ≡ Unwind code ∷ below = sym at ∙ top in cc) e
        go (Closing ∷ ts) at o = goes_on s u c w h (λ top. let clash : Closing ∷ ts ≡ Unwind code ∷ below = sym at ∙ top in cc) e
        go (Unwind x ∷ ts) at o = leave_moves s u c w h.dealt h.rest h.all h.course h.leaving (grind (arith, nat_tests)) e
        go _ at o = absurd o

    moved_on : (lines : List Line) (s u : State) (c : Choice) → WellTyped p t s → IsBusy s → IsOpen p outside.refused c s → step p c s ≡ Goes u → Course s → Course u
    moved_on lines s u c w busy choice e (inl h) = still s u c w h e
    moved_on lines s u c w busy choice e (inr h) =
        inr (record { last = h.last; course = h.course; choice = h.choice; after = h.after; move = h.move; arrives = h.arrives; lines = _; reaches = moves c h.reaches busy choice e })

    turned : (observed : Observed) (s u : State) → IsBetween s → ObservesWell p outside observed s → turn p outside observed s ≡ Goes u → Course s → Course u
    turned observed s u between observes e (inl h) = absurd (subst (λ ts. IsOver p (length s.items) code below ts) between.idle h.leaving.over)
    turned observed s u between observes e (inr h) =
        inr (record { last = h.last; course = h.course; choice = h.choice; after = h.after; move = h.move; arrives = h.arrives; lines = _; reaches = turns observed h.reaches between observes e })

    course_of : IsLeaving p code below entries items from → (lines : List Line) (s : State) → Reaches p outside from lines s → Course s
    course_of l _ _ begins = inl (record { dealt = []; rest = entries; all = refl; course = leaves; leaving = l })
    course_of l _ _ (moves {lines = lines} {s = s} {u = u} c before busy choice e) =
        moved_on lines s u c (well_on from well lines s before).0 busy choice e (course_of l lines s before)
    course_of l _ _ (turns {lines = lines} {s = s} {u = u} observed before between observes e) = turned observed s u between observes e (course_of l lines s before)

pub leaves_arrive : LeavesArrive
leaves_arrive p t outside wired typed before s reached code below at =
    grind (arith, nat_tests, well_on p t outside wired typed, boot_keeps p t wired typed, splits p t s, course_of p t outside wired typed s)

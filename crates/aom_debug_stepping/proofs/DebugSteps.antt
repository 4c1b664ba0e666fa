-- Steps one after another, with their lines and what is noted of them: what goes out, and where they end.
use Rattle.std.proofs.Common.{◌≡◌, ◌≢◌, ◌∙◌, ℕ, suc, Bool, true, false, List, [], ◌++◌, Option, refl, sym, subst, inl, inr}
use Rattle.aom_image.specs.Image.{Image}
use Rattle.aom_semantics.specs.State.{State}
use Rattle.aom_transcript.specs.declared.line.Line.{Line}
use Rattle.aom_machine_state.specs.declared.progress.Progress.TheVariants.{Running}
use Rattle.aom_machine.specs.Steps.{progress}
use Rattle.aom_debug_stepping.proofs.MachineLemmas.{has_task, is_as_far}
use Rattle.aom_run.specs.Calls.{RefinesWithNatives}
use Rattle.aom_debug_stepping.specs.Sends.{Breaks, HostedMachine, Sends}
use Rattle.aom_debug_stepping.specs.Runners.{KeepsRunner}
use Rattle.aom_debug_stepping.specs.declared.runner.Runner.{Runner}
use Rattle.aom_run.specs.Runs.{Moving, begins as stays_there}
use Rattle.aom_debug_stepping.proofs.RunLemmas.{moving_both}
use Rattle.aom_debug_stepping.proofs.Keeping.{begun_as}
use Rattle.aom_debug_stepping.proofs.Sending.{after_none, breaks_then, moving_debug_step, sent_both}
use Rattle.aom_debug_protocol.specs.declared.spot.CodeLocation.{CodeLocation}
use Rattle.aom_debug_stepping.specs.Moves.{DebugSteps}
use Rattle.aom_debug_stepping.specs.RunGoals.{RunGoals, Walks, WalksIfAny, WalksOn, WalksThere, WalksUnless}
use Rattle.aom_debug_stepping.specs.RunGoals.Walks.{begins, debug_steps}

-- some steps, from the last of which one may go on
abbrev pub Underway : Image → List ℕ → (State → Bool) → RunGoals
Underway p refused stays old new s lines u = (n : ℕ) × Walks p refused stays old s n new lines u × (n ≢ 0 → stays u ≡ false)

-- one at least
abbrev pub Begun : Image → List ℕ → (State → Bool) → RunGoals
Begun p refused stays old new s lines u = (n : ℕ) × Walks p refused stays old s (suc n) new lines u

-- steps are moves
pub moving_walk : (p : Image) (refused : List ℕ) (stays : State → Bool) (old : List CodeLocation)
    (s : State) (n : ℕ) (new : List CodeLocation) (lines : List Line) (u : State) → Walks p refused stays old s n new lines u → Moving p refused s lines u
moving_walk p refused stays old s _ _ _ _ begins = stays_there
moving_walk p refused stays old s _ _ _ _ (debug_steps {n} {mid} {new} {lines} {more} {v} {u} before hand on once) =
    moving_both p refused s lines v more u (moving_walk p refused stays old s n mid lines v before) (moving_debug_step p refused mid new v more u once)

module _ {X : Type 0} {B : X → Type 0} (p : Image) (refused : List ℕ) (stays : State → Bool) where
  pub nowhere : (spots : List CodeLocation) (m : HostedMachine X B) (out : Option (List ℕ)) → Sends (Underway p refused stays spots spots) m out out m
  nowhere spots m out s stands = ([], s, (0, begins, (λ some. absurd (some refl))), after_none out, stands)

  module _ (old mid : List CodeLocation) (a m c : HostedMachine X B) (before here out : Option (List ℕ)) (x : Sends (Underway p refused stays old mid) a before here m) where
    -- one step more
    pub steps_more : (new : List CodeLocation) → progress m.core ≡ Running → Sends (DebugSteps p refused mid new) m here out c →
        Sends (Begun p refused stays old new) a before out c
    steps_more new running y s stands =
        let f = x s stands in
        let g = y f.1 f.4 in
        (f.0 ++ g.0, g.1, (f.2.0, debug_steps f.2.1 (has_task f.1 (sym (is_as_far m.core f.1 f.4.stands) ∙ running)) f.2.2 g.2), sent_both before here out f.0 g.0 f.3 g.3, g.4)

    pub steps_cut : Breaks (Moving p refused) m here out c → Breaks (Moving p refused) a before out c
    steps_cut y = breaks_then a m c before here out (Underway p refused stays old mid) (Moving p refused) x (Moving p refused)
        (λ s ls v ks u f k. moving_both p refused s ls v ks u (moving_walk p refused stays old s f.0 mid ls v f.1) k) y

  module _ (old new : List CodeLocation) (a c : HostedMachine X B) (before out : Option (List ℕ)) (x : Sends (Begun p refused stays old new) a before out c) where
    -- they end where nothing is at hand
    pub over : progress c.core ≢ Running → Sends (WalksThere p refused stays old new) a before out c
    over rests s stands = let f = x s stands in (f.0, f.1, (f.2.0, f.2.1, inl (λ is. rests (is_as_far c.core f.1 f.4.stands ∙ is))), f.3, f.4)

    -- or at a place to stay
    pub there : (b : Bool) → b ≡ true → ((s : State) → RefinesWithNatives c s → b ≡ stays s) → Sends (WalksThere p refused stays old new) a before out c
    there b is reported s stands = let f = x s stands in (f.0, f.1, (f.2.0, f.2.1, inr (sym (reported f.1 f.4) ∙ is)), f.3, f.4)

    -- or they go on
    pub not_there : (b : Bool) → b ≡ false → ((s : State) → RefinesWithNatives c s → b ≡ stays s) → Sends (Underway p refused stays old new) a before out c
    not_there b is reported s stands = let f = x s stands in (f.0, f.1, (suc f.2.0, f.2.1, (λ some. sym (reported f.1 f.4) ∙ is)), f.3, f.4)

  -- ---- where nothing is at hand, or at a place to stay already

  pub rests_here : (spots : List CodeLocation) (m : HostedMachine X B) (out : Option (List ℕ)) (b : Bool) → b ≡ true →
      Sends (WalksUnless b p refused stays spots spots) m out out m
  rests_here spots m out b is =
      subst (λ z. Sends (WalksUnless z p refused stays spots spots) m out out m) (sym is) (λ s stands. ([], s, (refl, refl, refl), after_none out, stands))

  module _ (old new : List CodeLocation) (a c : HostedMachine X B) (before out : Option (List ℕ)) where
    pub goes_on : (b : Bool) → b ≡ false → Sends (WalksThere p refused stays old new) a before out c → Sends (WalksUnless b p refused stays old new) a before out c
    goes_on b is x = subst (λ z. Sends (WalksUnless z p refused stays old new) a before out c) (sym is) x

    pub walked_if_any : (b : Bool) → (b ≡ true → progress a.core ≢ Running) → Sends (WalksUnless b p refused stays old new) a before out c →
        Sends (WalksIfAny p refused stays old new) a before out c
    walked_if_any true idle x s stands = let f = x s stands in (f.0, f.1, inl ((λ is. idle refl (is_as_far a.core s stands.stands ∙ is)), f.2), f.3, f.4)
    walked_if_any false idle x s stands = let f = x s stands in (f.0, f.1, inr f.2, f.3, f.4)

    pub walked_on : (b : Bool) → ((s : State) → RefinesWithNatives a s → b ≡ stays s) → Sends (WalksUnless b p refused stays old new) a before out c →
        Sends (WalksOn p refused stays old new) a before out c
    walked_on true reported x s stands = let f = x s stands in (f.0, f.1, inl (sym (reported s stands), f.2), f.3, f.4)
    walked_on false reported x s stands = let f = x s stands in (f.0, f.1, inr (sym (reported s stands), f.2), f.3, f.4)

-- ---- by what a loop of steps keeps

module _ {X : Type 0} {B : X → Type 0} (a m n : Runner X B) (keeps : KeepsRunner a m) (stays : State → Bool) (old : List CodeLocation) (before here out : Option (List ℕ))
    (so_far : Sends (Underway a.machine.core.image a.lines.refused stays old m.recent) a.machine before here m.machine) where
  pub stepped : progress m.machine.core ≡ Running → Sends (DebugSteps m.machine.core.image m.lines.refused m.recent n.recent) m.machine here out n.machine
      → Sends (Begun a.machine.core.image a.lines.refused stays old n.recent) a.machine before out n.machine
  stepped running step = steps_more a.machine.core.image a.lines.refused stays old m.recent a.machine m.machine n.machine before here out so_far n.recent running
      (begun_as keeps (λ q r. Sends (DebugSteps q r m.recent n.recent) m.machine here out n.machine) step)

  pub step_cut : Breaks (Moving m.machine.core.image m.lines.refused) m.machine here out n.machine →
      Breaks (Moving a.machine.core.image a.lines.refused) a.machine before out n.machine
  step_cut cut = steps_cut a.machine.core.image a.lines.refused stays old m.recent a.machine m.machine n.machine before here out so_far
      (begun_as keeps (λ q r. Breaks (Moving q r) m.machine here out n.machine) cut)

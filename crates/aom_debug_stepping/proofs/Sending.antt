-- What goes out after what is out: moves one after another, the last of which may be cut.
use Rattle.std.proofs.Common.{◌≡◌, ◌∙◌, ◌+◌, ◌-◌, ◌^◌, ◌<◌, ◌≤◌, ℕ, suc, ℤ, Bool, true, false, List, [], ◌∷◌, ◌++◌, Option, Some, None, length, take, refl, sym}
use Rattle.std.proofs.Common.{ap, subst, arith, IfSome}
use Rattle.aom_debug_protocol.specs.declared.spot.CodeLocation.{CodeLocation}
use Rattle.aom_image.specs.Image.{Image}
use Rattle.aom_semantics.specs.State.{State}
use Rattle.aom_semantics.specs.World.{IsBetween, Environment, Reaches, begins as reaches_begins}
use Rattle.aom_transcript.specs.declared.line.Line.{Line}
use Rattle.aom_transcript.specs.declared.line.Ending.{Ending}
use Rattle.aom_transcript.specs.Text.{text_of}
use Rattle.aom_machine_state.specs.LineBuffer.{LineBuffer}
use Rattle.aom_machine_state.specs.declared.progress.Progress.{Progress}
use Rattle.aom_machine_state.specs.declared.progress.Progress.TheVariants.{Ended, Running, Turned}
use Rattle.aom_machine_state.specs.Progress.{progress_by, progress_of}
use Rattle.aom_machine.specs.Steps.{HasTask, Steps, moves, rests, progress}
use Rattle.aom_debug_stepping.proofs.MachineLemmas.{between, is_as_far}
use Rattle.aom_run.specs.Calls.{Stands, RefinesWithNatives, SteppedOnce}
use Rattle.aom_run.specs.declared.machine.HostedMachine.{HostedMachine}
use Rattle.aom_run.specs.Runs.{Moving, begins}
use Rattle.aom_transcript.specs.Sinks.{after}
use Rattle.aom_run.specs.Turns.{TakesTurns}
use Rattle.aom_debug_stepping.proofs.RunLemmas.{fewer_left, left, moving_both, reaches_both, steps_on}
pub use Rattle.aom_debug_stepping.proofs.TranscriptLemmas.{after_both, after_none, cut_next, cut_short, text_of_both}
use Rattle.aom_debug_stepping.specs.Next.{pauses, root_is_due}
use Rattle.aom_debug_stepping.specs.Moves.{Arrives, StepsOnce, DebugSteps, TurnsOnce, stays, turns}
use Rattle.aom_debug_stepping.specs.Sends.{Breaks, IfSo, Leads, Sends, Then, Where}

-- what holds of a value holds of it otherwise
pub if_any : {A : Type 0} {P : Type 0} (r : Option A) → P → IfSome r (λ _. P)
if_any None x = tt
if_any (Some a) x = x

-- something is at hand
pub running_of : (s : State) → HasTask s → progress_of s ≡ Running
running_of s hand = ap (λ e. progress_by e s.tasks) hand.going ∙ ap (λ ts. progress_by None ts) hand.busy.2

-- steps and what is none are moves
pub moving_of : (p : Image) (refused : List ℕ) (s : State) (lines : List Line) (u : State) → StepsOnce p refused s lines u → Moving p refused s lines u
moving_of p refused s lines u x = steps_on p refused x.0 s [] s lines u begins x.1

pub moving_if : (b : Bool) (p : Image) (refused : List ℕ) (s : State) (lines : List Line) (u : State) → IfSo b (StepsOnce p refused) s lines u →
    Moving p refused s lines u
moving_if true p refused s lines u x = moving_of p refused s lines u x
moving_if false p refused s lines u x = subst (λ ls. Moving p refused s ls u) (sym x.0) (subst (λ v. Moving p refused s [] v) (sym x.1) begins)

-- a step of a debugger is moves
pub moving_debug_step : (p : Image) (refused : List ℕ) (old new : List CodeLocation) (s : State) (lines : List Line) (u : State) → DebugSteps p refused old new s lines u →
    Moving p refused s lines u
moving_debug_step p refused old new s lines u x =
    let first = moving_if (root_is_due p s) p refused s x.1 x.0 x.3 in
    let y = x.4.1 in
    let step = moving_of p refused x.0 y.1 y.0 y.3 in
    let last = moving_if (pauses p y.0) p refused y.0 y.2 u y.4 in
    let later = subst (λ ls. Moving p refused x.0 ls u) (sym y.5) (moving_both p refused x.0 y.1 y.0 y.2 u step last) in
    subst (λ ls. Moving p refused s ls u) (sym x.5) (moving_both p refused s x.1 x.0 x.2 u first later)

-- turns one after another are a run
pub reaches_arrived : (p : Image) (outside : Environment) (s : State) (lines : List Line) (u : State) → Arrives p outside s lines u → Reaches p outside s lines u
reaches_arrived p outside s _ _ stays = reaches_begins
reaches_arrived p outside s _ _ (turns {lines} {more} {v} {u} before idle once) =
    reaches_both p outside s lines v more u (reaches_arrived p outside s lines v before) once.1

-- how far it is to a state at which something is at hand
abbrev pub to_go : Progress → ℕ → ℕ
to_go Turned n = suc n
to_go Running n = 0
to_go (Ended ending) n = 0

pub nearer : (far : Progress) (new old : ℕ) → (far ≡ Turned → new < old) → to_go far new < to_go Turned old
nearer Turned new old less = let below = less refl in omega (arith, below)
nearer Running new old less = omega arith
nearer (Ended ending) new old less = omega arith

-- a list of that length has nothing
pub none_there : {A : Type 0} (xs : List A) → length xs ≡ 0 → xs ≡ []
none_there [] none = refl
none_there (x ∷ xs) none = cc

-- what is out after two texts
pub sent_both : (before mid out : Option (List ℕ)) (a b : List Line) → mid ≡ after before (text_of a) → out ≡ after mid (text_of b) →
    out ≡ after before (text_of (a ++ b))
sent_both before mid out a b first later = later ∙ ap (λ o. after o (text_of b)) first ∙ after_both before (text_of a) (text_of b)
    ∙ ap (after before) (sym (text_of_both a b))

turned_not_running : Turned ≡ Running → ⊥
turned_not_running e = absurd cc

not_over : (u : State) (ending : Ending) → u.rest.ended ≡ Some ending → progress_of u ≡ Turned → ⊥
not_over u ending over is = let no : Ended ending ≡ Turned = sym (ap (λ e. progress_by e u.tasks) over) ∙ is in cc

module _ {X : Type 0} {B : X → Type 0} where
  -- ---- one after the other

  module _ (a m c : HostedMachine X B) (before mid out : Option (List ℕ)) (first later : Leads) (x : Sends first a before mid m) where
    pub sends_then : Sends later m mid out c → Sends (Then first later) a before out c
    sends_then y s stands =
        let f = x s stands in
        let g = y f.1 f.4 in
        let text = g.3 ∙ ap (λ o. after o (text_of g.0)) f.3 ∙ after_both before (text_of f.0) (text_of g.0) ∙ ap (after before) (sym (text_of_both f.0 g.0)) in
        (f.0 ++ g.0, g.1, (f.1, f.0, g.0, f.2, g.2, refl), text, g.4)

    pub breaks_then : (all : Leads) → ((s : State) (ls : List Line) (v : State) (ks : List Line) (u : State) →
        first s ls v → later v ks u → all s (ls ++ ks) u) → Breaks later m mid out c → Breaks all a before out c
    breaks_then all joins y s stands =
        let f = x s stands in
        let g = y f.1 f.4 in
        let n = g.3.0 in
        let text = g.3.1 ∙ ap (λ o. after o (take n (text_of g.0))) f.3 ∙ cut_next before (text_of f.0) (text_of g.0) n
        ∙ ap (λ t. after before (take (length (text_of f.0) + n) t)) (sym (text_of_both f.0 g.0)) in
        (f.0 ++ g.0, g.1, joins s f.0 f.1 g.0 g.1 f.2 g.2, (length (text_of f.0) + n, text), g.4)

  pub sends_as : (a c : HostedMachine X B) (before out : Option (List ℕ)) (one other : Leads) →
      ((s : State) → RefinesWithNatives a s → (ls : List Line) (u : State) → one s ls u → other s ls u) → Sends one a before out c → Sends other a before out c
  sends_as a c before out one other turn x s stands = let f = x s stands in (f.0, f.1, turn s stands f.0 f.1 f.2, f.3, f.4)

  pub sends_nothing : (leads : Leads) (m : HostedMachine X B) (out : Option (List ℕ)) → Sends (IfSo false leads) m out out m
  sends_nothing leads m out s stands = ([], s, (refl, refl), after_none out, stands)

  pub sends_if_so : (b : Bool) → b ≡ true → (leads : Leads) (a c : HostedMachine X B) (before out : Option (List ℕ)) → Sends leads a before out c →
      Sends (IfSo b leads) a before out c
  sends_if_so b is leads a c before out x = subst (λ y. Sends (IfSo y leads) a before out c) (sym is) x

  pub sends_if_not : (b : Bool) → b ≡ false → (leads : Leads) (m : HostedMachine X B) (out : Option (List ℕ)) → Sends (IfSo b leads) m out out m
  sends_if_not b is leads m out = subst (λ y. Sends (IfSo y leads) m out out m) (sym is) (sends_nothing leads m out)

  -- what is asked for is what the states say
  pub sends_where : (b : Bool) (test : State → Bool) (leads : Leads) (a c : HostedMachine X B) (before out : Option (List ℕ)) →
      ((s : State) → RefinesWithNatives a s → b ≡ test s) → Sends (IfSo b leads) a before out c → Sends (Where test leads) a before out c
  sends_where b test leads a c before out is x =
      sends_as a c before out (IfSo b leads) (Where test leads) (λ s stands ls u y. subst (λ z. IfSo z leads s ls u) (is s stands) y) x

  -- what one step does, whatever it hears
  abbrev pub Stepped : HostedMachine X B → Progress → LineBuffer → LineBuffer → HostedMachine X B → Type 0
  Stepped old far reported now new = (s : State) → RefinesWithNatives old s → (observed : ℤ) × SteppedOnce old observed far reported now new s

  pub stepped_of : (old new : HostedMachine X B) (far : Progress) (reported now : LineBuffer) {May : State → ℤ → Type 0} →
      ((s : State) → RefinesWithNatives old s → (observed : ℤ) × May s observed × SteppedOnce old observed far reported now new s) → Stepped old far reported now new
  stepped_of old new far reported now steps s stands = let x = steps s stands in (x.0, x.2)

  -- ---- one step

  module _ (old new : HostedMachine X B) (far : Progress) (reported now : LineBuffer) (none : reported.lines ≡ []) (steps : Stepped old far reported now new) where
    pub stands_after : Stands old → Stands new
    stands_after st = let x = (steps st.0 st.1).1 in (x.1, x.5)

    pub far_after : Stands old → far ≡ progress new.core
    far_after st = let x = (steps st.0 st.1).1 in x.4 ∙ sym (is_as_far new.core x.1 x.5.stands)

    pub cleared : Stands old → (clear : LineBuffer) → clear ≡ record now { lines = [] } → clear ≡ reported
    cleared st clear is = let x = (steps st.0 st.1).1 in is ∙ ap (λ (t : LineBuffer). record t { lines = [] }) x.3 ∙ ap (λ ls. record reported { lines = ls }) (sym none)

    lines_of : (s : State) (stands : RefinesWithNatives old s) → now.lines ≡ (steps s stands).1.0
    lines_of s stands = ap (λ (t : LineBuffer). t.lines) (steps s stands).1.3 ∙ ap (λ ls. ls ++ (steps s stands).1.0) none

    pub sends_step : (before out : Option (List ℕ)) → out ≡ after before (text_of now.lines) → Sends (StepsOnce old.core.image reported.refused) old before out new
    sends_step before out e s stands =
        let x = steps s stands in
        (x.1.0, x.1.1, (x.0, x.1.2), e ∙ ap (λ ls. after before (text_of ls)) (lines_of s stands), x.1.5)

    pub breaks_step : (before out : Option (List ℕ)) (n : ℕ) → out ≡ after before (take n (text_of now.lines)) →
        Breaks (Moving old.core.image reported.refused) old before out new
    breaks_step before out n e s stands =
        let x = steps s stands in
        (x.1.0, x.1.1, steps_on old.core.image reported.refused x.0 s [] s x.1.0 x.1.1 begins x.1.2, (n, e ∙ ap (λ ls. after before (take n (text_of ls))) (lines_of s stands)), x.1.5)

    -- after a step that leaves something at hand there was something
    pub was_running : Stands old → progress new.core ≡ Running → progress old.core ≡ Running
    was_running st running =
        let x = steps st.0 st.1 in
        is_as_far old.core st.0 st.1.stands ∙ go x.1.1 x.1.0 x.1.2 (sym (is_as_far new.core x.1.1 x.1.5.stands) ∙ running)
      where
        go : (u : State) (lines : List Line) → Steps old.core.image reported.refused (steps st.0 st.1).0 st.0 lines u → progress_of u ≡ Running →
            progress_of st.0 ≡ Running
        go u lines (rests done) is = is
        go u lines (moves c hand free observes goes rest) is = running_of st.0 hand

  -- ---- turns

  module _ (old new : HostedMachine X B) (outside : Environment) (ending : Option Ending) (reported now : LineBuffer) (none : reported.lines ≡ [])
      (takes : TakesTurns old outside ending reported now new) where
    pub stands_turned : Stands old → Stands new
    stands_turned st = let x = takes st.0 st.1 in (x.1, x.5)

    pub turn_cleared : Stands old → (clear : LineBuffer) → clear ≡ record now { lines = [] } → clear ≡ reported
    turn_cleared st clear is = let x = takes st.0 st.1 in is ∙ ap (λ (t : LineBuffer). record t { lines = [] }) x.3
        ∙ ap (λ ls. record reported { lines = ls }) (sym none)

    turned_lines : (s : State) (stands : RefinesWithNatives old s) → now.lines ≡ (takes s stands).0
    turned_lines s stands = ap (λ (t : LineBuffer). t.lines) (takes s stands).3 ∙ ap (λ ls. ls ++ (takes s stands).0) none

    pub sends_turn : (before out : Option (List ℕ)) → out ≡ after before (text_of now.lines) → Sends (TurnsOnce old.core.image outside) old before out new
    sends_turn before out e s stands =
        let x = takes s stands in
        (x.0, x.1, (ending, x.2, x.4), e ∙ ap (λ ls. after before (text_of ls)) (turned_lines s stands), x.5)

    pub breaks_turn : (before out : Option (List ℕ)) (n : ℕ) → out ≡ after before (take n (text_of now.lines)) →
        Breaks (Reaches old.core.image outside) old before out new
    breaks_turn before out n e s stands =
        let x = takes s stands in
        (x.0, x.1, x.2, (n, e ∙ ap (λ ls. after before (take n (text_of ls))) (turned_lines s stands)), x.5)

  -- ---- turns one after another

  module _ (p : Image) (outside : Environment) where
    pub arrives_nowhere : (m : HostedMachine X B) (out : Option (List ℕ)) → Sends (Arrives p outside) m out out m
    arrives_nowhere m out s stands = ([], s, stays, after_none out, stands)

    module _ (a m c : HostedMachine X B) (before mid out : Option (List ℕ)) (x : Sends (Arrives p outside) a before mid m) where
      -- one turn more, from a machine that is between dispatches
      pub arrives_on : progress m.core ≡ Turned → Sends (TurnsOnce p outside) m mid out c → Sends (Arrives p outside) a before out c
      arrives_on resting y s stands =
          let f = x s stands in
          let g = y f.1 f.4 in
          let is : IsBetween f.1 = between f.1 (sym (is_as_far m.core f.1 f.4.stands) ∙ resting) in
          (f.0 ++ g.0, g.1, turns f.2 is g.2, sent_both before mid out f.0 g.0 f.3 g.3, g.4)

      pub arrives_cut : Breaks (Reaches p outside) m mid out c → Breaks (Reaches p outside) a before out c
      arrives_cut = breaks_then a m c before mid out (Arrives p outside)
          (Reaches p outside) x (Reaches p outside) (λ s ls v ks u f g. reaches_both p outside s ls v ks u (reaches_arrived p outside s ls v f) g)

  -- fewer dispatches or events are to come
  pub fewer : (outside : Environment) →
      outside.limit ≤ 2 ^ 64 - 1 → (m mid : HostedMachine X B) (reported buffer : LineBuffer) (ending : Option Ending) → Stands m → progress m.core ≡ Turned →
      TakesTurns m outside ending reported buffer mid → progress mid.core ≡ Turned → left outside.events outside.limit mid < left outside.events outside.limit m
  fewer outside few m mid reported buffer None stands between takes again = fewer_left outside few m mid mid reported buffer (record buffer { lines = [] }) Turned None None
      stands between takes (λ s st. ([], s, begins, refl, refl, sym again ∙ is_as_far mid.core s st.stands, (λ no. absurd (turned_not_running no)), st))
  fewer outside few m mid reported buffer (Some ending) stands between takes again =
      let x = takes stands.0 stands.1 in
      absurd (not_over x.1 ending x.4.1 (sym (is_as_far mid.core x.1 x.5.stands) ∙ again))

-- To a place to stay: steps in one dispatch after another, what goes out, and what is noted.
use Rattle.std.proofs.Common.{arith, ◌≡◌, ◌≢◌, ◌⊎◌, ◌∙◌, ℕ, suc, Bool, true, false, List, [], ◌++◌, Option, refl, sym, ap, subst, inl, inr}
use Rattle.std.proofs.Common.{append-nil, append_assoc}
use Rattle.aom_image.specs.Image.{Image}
use Rattle.aom_semantics.specs.State.{State}
use Rattle.aom_semantics.specs.World.{Environment, Reaches, begins as from_here}
use Rattle.aom_transcript.specs.declared.line.Line.{Line}
use Rattle.aom_transcript.specs.declared.line.Ending.{Ending}
use Rattle.std.specs.Prelude.{is_some}
use Rattle.aom_machine_state.specs.declared.progress.Progress.TheVariants.{Running, Turned}
use Rattle.aom_machine_state.specs.Progress.{progress_by, progress_of}
use Rattle.aom_machine.specs.Steps.{HasTask, progress}
use Rattle.aom_debug_stepping.proofs.MachineLemmas.{is_as_far}
use Rattle.aom_debug_stepping.specs.Sends.{Breaks, HostedMachine, Sends, Then}
use Rattle.aom_debug_stepping.specs.Runners.{KeepsRunner, outside_of}
use Rattle.aom_debug_stepping.specs.declared.runner.Runner.{Runner}
use Rattle.aom_debug_stepping.proofs.RunLemmas.{reaches_both}
use Rattle.aom_typing_rules.specs.Typing.{Typing}
use Rattle.aom_debug_protocol.specs.declared.breakpoints.Breakpoint.{Breakpoint}
use Rattle.aom_debug_protocol.specs.declared.spot.CodeLocation.{CodeLocation}
use Rattle.aom_debug_stepping.specs.Moves.{Arrives, DebugSteps, stays as no_turns, turns}
use Rattle.aom_debug_stepping.proofs.Keeping.{observed_as}
use Rattle.aom_debug_stepping.proofs.Sending.{breaks_then, moving_debug_step, reaches_arrived, running_of, sent_both}
use Rattle.aom_debug_stepping.specs.RunGoals.{RunGoals, GoesOn, HasBegun, InDispatch, IsOver, IsThere, Passes, Rests, Walks, WalksIfAny, WalksOn}
use Rattle.aom_debug_stepping.specs.RunGoals.{stays_at}
use Rattle.aom_debug_stepping.specs.declared.walking.Until.{Until}
use Rattle.aom_debug_stepping.specs.RunGoals.Passes.{begins as passes_none, debug_steps as passes_more}
use Rattle.aom_debug_stepping.specs.RunGoals.Walks.{begins as walks_none, debug_steps as walks_more}
use Rattle.aom_debug_stepping.proofs.Going.{is_over, run_of}

-- turns after turns
pub arrives_both : (p : Image) (outside : Environment) (s : State) (lines : List Line) (v : State) (more : List Line) (u : State) →
    Arrives p outside s lines v → Arrives p outside v more u → Arrives p outside s (lines ++ more) u
arrives_both p outside s lines v _ _ x no_turns = subst (λ ls. Arrives p outside s ls v) (sym (append-nil lines)) x
arrives_both p outside s lines v _ _ x (turns {lines = more} {more = last} {v = w} {u} before idle once) =
    subst (λ ls. Arrives p outside s ls u) (append_assoc lines more last) (turns (arrives_both p outside s lines v more w x before) idle once)

-- steps with the turns before them are a run
pub reaches_passed : (p : Image) (outside : Environment) (stays : State → Bool) (old : List CodeLocation)
    (s : State) (n : ℕ) (new : List CodeLocation) (lines : List Line) (u : State) → Passes p outside stays old s n new lines u → Reaches p outside s lines u
reaches_passed p outside stays old s _ _ _ _ passes_none = from_here
reaches_passed p outside stays old s _ _ _ _ (passes_more {n} {mid} {new} {lines} {first} {later} {v} {w} {u} before comes hand on once) =
    reaches_both p outside s lines v (first ++ later) u (reaches_passed p outside stays old s n mid lines v before) (reaches_both p outside v first w later u
    (reaches_arrived p outside v first w comes) (run_of p outside w later u (moving_debug_step p outside.refused mid new w later u once)))

-- nothing is at hand, where the run is over
over_by : {T : Type 0} (e : Option Ending) (ts : List T) → is_some e ≡ true → progress_by e ts ≢ Running
over_by e ts over is = grind arith

over_rests : (s : State) → IsOver s → progress_of s ≢ Running
over_rests s over = over_by s.rest.ended s.tasks over

-- ---- steps in one dispatch are such steps

module _ (p : Image) (outside : Environment) (stays : State → Bool) (old : List CodeLocation) (s v w : State) (n : ℕ) (mid : List CodeLocation) (lines first : List Line) where
  -- none, or one at least
  abbrev PassesBy : ℕ → List CodeLocation → List Line → State → Type 0
  PassesBy k new ls u = ((k ≡ 0) × Rests mid new w ls u) ⊎ ((k ≢ 0) × (m : ℕ) × Passes p outside stays old s (suc m) new (lines ++ (first ++ ls)) u)

  module _ (before : Passes p outside stays old s n mid lines v) (comes : Arrives p outside v first w) (free : HasTask w → HasBegun n s → stays w ≡ false) where
    one_more : (k : ℕ) (far new : List CodeLocation) (ls last : List Line) (x u : State) → PassesBy k far ls x → HasTask x → (k ≢ 0 → stays x ≡ false) →
        DebugSteps p outside.refused far new x last u → (m : ℕ) × Passes p outside stays old s (suc m) new (lines ++ (first ++ (ls ++ last))) u
    one_more k far new ls last x u (inl none) hand on once =
        let same = none.1.1 in
        let here = subst (λ y. HasTask y) same hand in
        let debug_step = subst (λ y. DebugSteps p outside.refused far new y last u) same once in
        let all = passes_more before comes here (free here) (subst (λ spots. DebugSteps p outside.refused spots new w last u) none.1.2 debug_step) in
        (n, subst (λ l. Passes p outside stays old s (suc n) new (lines ++ (first ++ (l ++ last))) u) (sym none.1.0) all)
    one_more k far new ls last x u (inr some) hand on once =
        let all = passes_more some.2 no_turns hand (λ begun. on some.0) once in
        (suc some.1, subst (λ l. Passes p outside stays old s (suc (suc some.1)) new l u) (append_assoc lines (first ++ ls) last ∙ ap (λ l. lines ++ l) (append_assoc first ls last)) all)

    pub walked_by : (k : ℕ) (new : List CodeLocation) (ls : List Line) (u : State) → Walks p outside.refused stays mid w k new ls u → PassesBy k new ls u
    walked_by _ _ _ _ walks_none = inl (refl, (refl, refl, refl))
    walked_by _ _ _ _ (walks_more {n = k} {mid = far} {new} {lines = ls} {more = last} {v = x} {u} walked hand on once) =
        let more = one_more k far new ls last x u (walked_by k far ls x walked) hand on once in
        inr ((λ none. absurd cc), more.0, more.1)

    pub walked_some : (k : ℕ) (new : List CodeLocation) (ls : List Line) (u : State) →
        Walks p outside.refused stays mid w (suc k) new ls u → (m : ℕ) × Passes p outside stays old s (suc m) new (lines ++ (first ++ ls)) u
    walked_some k new ls u walked = go (walked_by (suc k) new ls u walked)
      where
        go : PassesBy (suc k) new ls u → (m : ℕ) × Passes p outside stays old s (suc m) new (lines ++ (first ++ ls)) u
        go (inl none) = let not = none.0 in absurd cc
        go (inr some) = (some.1, some.2)

-- ---- one dispatch after another

-- so far, with something at hand only at a place to stay
abbrev pub GoesFar : Image → Environment → (State → Bool) → RunGoals
GoesFar p outside stays old new s lines u = (n : ℕ) × Then (λ a ls b. Passes p outside stays old a n new ls b) (Arrives p outside) s lines u
    × HasBegun n s × IsThere stays u

module _ (p : Image) (outside : Environment) (stays : State → Bool) where
  far_first : (old new : List CodeLocation) (s : State) (ls : List Line) (u : State) → WalksIfAny p outside.refused stays old new s ls u →
      GoesFar p outside stays old new s ls u
  far_first old new s ls u (inl y) = (
    0,
    (s, [], [], subst (λ spots. Passes p outside stays old s 0 spots [] s) (sym y.1.2) passes_none, subst (λ v. Arrives p outside s [] v) (sym y.1.1) no_turns, y.1.0),
    (λ running. absurd (y.0 running)),
    inl (subst (λ v. progress_of v ≢ Running) (sym y.1.1) y.0),
  )
  far_first old new s ls u (inr y) = let all =
      walked_some p outside stays old s s s 0 old [] [] passes_none no_turns (λ hand begun. absurd (begun (running_of s hand) refl)) y.0 new ls u y.1 in
      (suc all.0, (u, ls, [], all.1, no_turns, sym (append-nil ls)), (λ running none. absurd cc), y.2)

  -- the same lines otherwise
  joined : (a b c d : List Line) → (a ++ b) ++ (c ++ d) ≡ a ++ ((b ++ c) ++ d)
  joined a b c d = append_assoc a b (c ++ d) ∙ ap (λ l. a ++ l) (sym (append_assoc b c d))

  module _ (old mid new : List CodeLocation) (s : State) (ls : List Line) (v : State) (x : GoesFar p outside stays old mid s ls v)
      (ks : List Line) (u : State) (z : InDispatch p outside (WalksOn p outside.refused stays) mid new v ks u) where
    comes_on : Arrives p outside x.1.0 (x.1.2 ++ z.1) z.0
    comes_on = arrives_both p outside x.1.0 x.1.2 v z.1 z.0 x.1.4 z.3

    lines_on : ls ++ ks ≡ x.1.1 ++ ((x.1.2 ++ z.1) ++ z.2)
    lines_on = ap (λ l. l ++ ks) x.1.5 ∙ ap (λ l. (x.1.1 ++ x.1.2) ++ l) z.5 ∙ joined x.1.1 x.1.2 z.1 z.2

    -- nothing more than turns
    far_turned : Rests mid new z.0 z.2 u → IsThere stays z.0 → GoesFar p outside stays old new s (ls ++ ks) u
    far_turned none there =
        let same = ap (λ l. x.1.1 ++ ((x.1.2 ++ z.1) ++ l)) none.0 ∙ ap (λ l. x.1.1 ++ l) (append-nil (x.1.2 ++ z.1)) in
        let passed = subst (λ spots. Passes p outside stays old s x.0 spots x.1.1 x.1.0) (sym none.2) x.1.3 in (
          x.0,
          (x.1.0, x.1.1, x.1.2 ++ z.1, passed, subst (λ w. Arrives p outside x.1.0 (x.1.2 ++ z.1) w) (sym none.1) comes_on, lines_on ∙ same),
          x.2,
          subst (λ w. IsThere stays w) (sym none.1) there,
        )

    far_next : GoesFar p outside stays old new s (ls ++ ks) u
    far_next = go z.4
      where
        by : WalksOn p outside.refused stays mid new z.0 z.2 u → GoesFar p outside stays old new s (ls ++ ks) u
        by (inl y) = far_turned y.1 (inr y.0)
        by (inr y) =
            let all = walked_some p outside stays old s x.1.0 z.0 x.0 mid x.1.1 (x.1.2 ++ z.1) x.1.3 comes_on (λ hand begun. y.0) y.1.0 new z.2 u y.1.1 in
            let text = x.1.1 ++ ((x.1.2 ++ z.1) ++ z.2) in
            (suc all.0, (u, text, [], all.1, no_turns, lines_on ∙ sym (append-nil text)), (λ running none. absurd cc), y.1.2)

        go : (IsOver z.0 × Rests mid new z.0 z.2 u) ⊎ (HasTask z.0 × WalksOn p outside.refused stays mid new z.0 z.2 u) →
            GoesFar p outside stays old new s (ls ++ ks) u
        go (inl y) = far_turned y.1 (inl (over_rests z.0 y.0))
        go (inr y) = by y.1

  -- the run is over, or it is at a place to stay
  goes_on_by : (old new : List CodeLocation) (s : State) (ls : List Line) (u : State) → progress_of u ≢ Turned → GoesFar p outside stays old new s ls u →
      GoesOn p outside stays old new s ls u
  goes_on_by old new s ls u goes x = (x.0, x.1, x.2, go x.3)
    where
      go : IsThere stays u → IsOver u ⊎ (stays u ≡ true)
      go (inl rests) = inl (is_over u rests goes)
      go (inr is) = inr is

  pub reaches_far : (old new : List CodeLocation) (s : State) (ls : List Line) (u : State) → GoesFar p outside stays old new s ls u → Reaches p outside s ls u
  reaches_far old new s ls u x = subst (λ l. Reaches p outside s l u) (sym x.1.5) (reaches_both p outside s x.1.1 x.1.0 x.1.2 u
      (reaches_passed p outside stays old s x.0 new x.1.1 x.1.0 x.1.3) (reaches_arrived p outside x.1.0 x.1.2 u x.1.4))

module _ {X : Type 0} {B : X → Type 0} (p : Image) (outside : Environment) (stays : State → Bool) where
  pub begins_far : (old new : List CodeLocation) (a c : HostedMachine X B) (before out : Option (List ℕ)) →
      Sends (WalksIfAny p outside.refused stays old new) a before out c → Sends (GoesFar p outside stays old new) a before out c
  begins_far old new a c before out x s stands = let f = x s stands in (f.0, f.1, far_first p outside stays old new s f.0 f.1 f.2, f.3, f.4)

  module _ (old mid : List CodeLocation) (a m c : HostedMachine X B) (before here out : Option (List ℕ)) (x : Sends (GoesFar p outside stays old mid) a before here m) where
    pub goes_far : (new : List CodeLocation) → Sends (InDispatch p outside (WalksOn p outside.refused stays) mid new) m here out c →
        Sends (GoesFar p outside stays old new) a before out c
    goes_far new y s stands =
        let f = x s stands in
        let g = y f.1 f.4 in
        (f.0 ++ g.0, g.1, far_next p outside stays old mid new s f.0 f.1 f.2 g.0 g.1 g.2, sent_both before here out f.0 g.0 f.3 g.3, g.4)

    pub far_cut : Breaks (Reaches p outside) m here out c → Breaks (Reaches p outside) a before out c
    far_cut y = breaks_then a m c before here out (GoesFar p outside stays old mid) (Reaches p outside) x (Reaches p outside)
        (λ s ls v ks u f g. reaches_both p outside s ls v ks u (reaches_far p outside stays old mid s ls v f) g) y

  pub went_on : (old new : List CodeLocation) (a c : HostedMachine X B) (before out : Option (List ℕ)) →
      progress c.core ≢ Turned → Sends (GoesFar p outside stays old new) a before out c → Sends (GoesOn p outside stays old new) a before out c
  went_on old new a c before out goes x s stands =
      let f = x s stands in
      (f.0, f.1, goes_on_by p outside stays old new s f.0 f.1 (λ is. goes (is_as_far c.core f.1 f.4.stands ∙ is)) f.2, f.3, f.4)

-- ---- by what a loop of dispatches keeps

module _ {X : Type 0} {B : X → Type 0} (a m n : Runner X B) (keeps : KeepsRunner a m) (t : Typing) (until : Until) (bs : List Breakpoint) (here out : Option (List ℕ)) where
  -- a dispatch from one state to another, up to a place to stay
  abbrev Passed : Image → Environment → Type 0
  Passed q outside = Sends (InDispatch q outside (WalksOn q outside.refused (λ (s : State). stays_at t q until bs s)) m.recent n.recent)
      m.machine here out n.machine

  pub passed : Passed m.machine.core.image (outside_of m) → Passed a.machine.core.image (outside_of a)
  passed = observed_as keeps Passed

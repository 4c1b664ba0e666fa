-- The end of a dispatch, and the dispatch that comes next: what goes out, by what comes before.
use Rattle.std.proofs.Common.{◌≡◌, ◌≢◌, ◌∙◌, ℕ, List, [], ◌++◌, Option, refl, sym, inl, inr}
use Rattle.aom_image.specs.Image.{Image}
use Rattle.aom_semantics.specs.World.{Environment, Reaches}
use Rattle.aom_machine_state.specs.declared.progress.Progress.TheVariants.{Running, Turned}
use Rattle.aom_machine.specs.Steps.{progress}
use Rattle.aom_debug_stepping.proofs.MachineLemmas.{has_task, is_as_far}
use Rattle.aom_debug_stepping.specs.Sends.{Breaks, HostedMachine, Sends}
use Rattle.aom_debug_stepping.specs.Runners.{KeepsRunner, outside_of}
use Rattle.aom_debug_stepping.specs.declared.runner.Runner.{Runner}
use Rattle.aom_run.specs.Runs.{Moving}
use Rattle.aom_debug_stepping.proofs.RunLemmas.{reaches_both}
use Rattle.aom_debug_stepping.proofs.Keeping.{begun_as}
use Rattle.aom_debug_stepping.proofs.Sending.{after_none, breaks_then, reaches_arrived, sent_both}
use Rattle.aom_debug_protocol.specs.declared.spot.CodeLocation.{CodeLocation}
use Rattle.aom_debug_stepping.specs.Moves.{Arrives}
use Rattle.aom_debug_stepping.specs.RunGoals.{RunGoals, InDispatch}
use Rattle.aom_debug_stepping.proofs.Going.{cut_run, is_over}

module _ {X : Type 0} {B : X → Type 0} (p : Image) (outside : Environment) (leads : RunGoals) where
  -- the run is over before
  pub over_there : (old new : List CodeLocation) → new ≡ old → (a m : HostedMachine X B) (before mid : Option (List ℕ)) → progress m.core ≢ Running →
      progress m.core ≢ Turned → Sends (Arrives p outside) a before mid m → Sends (InDispatch p outside leads old new) a before mid m
  over_there old new same a m before mid rests goes x s stands =
      let f = x s stands in
      let far = is_as_far m.core f.1 f.4.stands in
      let over = is_over f.1 (λ is. rests (far ∙ is)) (λ is. goes (far ∙ is)) in
      (f.0 ++ [], f.1, (f.1, f.0, [], f.2, inl (over, (refl, refl, same)), refl), sent_both before mid mid f.0 [] f.3 (after_none mid), f.4)

  -- a dispatch is at hand
  pub in_dispatch : (old new : List CodeLocation) (a m c : HostedMachine X B) (before mid out : Option (List ℕ)) → Sends (Arrives p outside) a before mid m →
      progress m.core ≡ Running → Sends (leads old new) m mid out c → Sends (InDispatch p outside leads old new) a before out c
  in_dispatch old new a m c before mid out x running y s stands =
      let f = x s stands in
      let g = y f.1 f.4 in
      let hand = has_task f.1 (sym (is_as_far m.core f.1 f.4.stands) ∙ running) in
      (f.0 ++ g.0, g.1, (f.1, f.0, g.0, f.2, inr (hand, g.2), refl), sent_both before mid out f.0 g.0 f.3 g.3, g.4)

-- moves that were cut come after turns
pub turn_cut : {X : Type 0} {B : X → Type 0} (p : Image) (outside : Environment) (a m c : HostedMachine X B) (before mid out : Option (List ℕ)) →
    Sends (Arrives p outside) a before mid m → Breaks (Moving p outside.refused) m mid out c → Breaks (Reaches p outside) a before out c
turn_cut p outside a m c before mid out x y = breaks_then a m c before mid out (Arrives p outside) (Reaches p outside) x
    (Reaches p outside) (λ s ls v ks u f g. reaches_both p outside s ls v ks u (reaches_arrived p outside s ls v f) g) (cut_run p outside m c mid out y)

-- so where the turns keep the machine's image and what is refused
pub walk_cut : {X : Type 0} {B : X → Type 0} (a m n : Runner X B) → KeepsRunner a m → (before mid out : Option (List ℕ)) →
    Sends (Arrives a.machine.core.image (outside_of a)) a.machine before mid m.machine → Breaks (Moving m.machine.core.image m.lines.refused) m.machine mid out
    n.machine → Breaks (Reaches a.machine.core.image (outside_of a)) a.machine before out n.machine
walk_cut a m n keeps before mid out x y = turn_cut a.machine.core.image
    (outside_of a) a.machine m.machine n.machine before mid out x (begun_as keeps (λ q r. Breaks (Moving q r) m.machine mid out n.machine) y)

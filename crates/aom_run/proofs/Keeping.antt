-- What a machine between dispatches keeps while parts of a turn go on, one after another.
use Rattle.std.proofs.lemmas.Bool.Decides.{nat_tests}
use Rattle.std.proofs.Common.{arith, ap, length, refl, ◌∙◌, ◌≡◌}
use Rattle.aom_machine_state.specs.declared.progress.Progress.TheVariants.{Turned}
use Rattle.aom_machine.specs.Steps.{progress, timers}
use Rattle.aom_run.specs.Calls.{NoneIsDue, Stands, natives_of}
use Rattle.aom_run.specs.declared.machine.HostedMachine.{HostedMachine}
use Rattle.aom_run.specs.Runs.{KeepsImage}
use Rattle.aom_run.specs.Turns.{KeepsMachine}

module _ {X : Type 0} {B : X → Type 0} where
  -- no timer is due either, and as many run
  pub record KeepsTimers (old new : HostedMachine X B) : Type 0 where
    pub keeps : KeepsMachine old new
    pub none_due : NoneIsDue new
    pub timers : timers new.core ≡ timers old.core

  pub keeps_all : (m : HostedMachine X B) → Stands m → progress m.core ≡ Turned → KeepsMachine m m
  keeps_all m stands between = record { stands = stands; between = between; image = refl; natives = refl }

  pub keeps_on : {old m new : HostedMachine X B} → KeepsMachine old m → Stands new → progress new.core ≡ Turned → new.core.image ≡ m.core.image →
      natives_of new ≡ natives_of m → KeepsMachine old new
  keeps_on was stands between image natives = search (arith, nat_tests)

  pub keeps_both : {old m new : HostedMachine X B} → KeepsMachine old m → KeepsMachine m new → KeepsMachine old new
  keeps_both was then = keeps_on was then.stands then.between then.image then.natives

  pub times_all : (m : HostedMachine X B) → Stands m → progress m.core ≡ Turned → NoneIsDue m → KeepsTimers m m
  times_all m stands between none = record { keeps = keeps_all m stands between; none_due = none; timers = refl }

  pub times_on : {old m new : HostedMachine X B} → KeepsTimers old m → KeepsMachine old new → NoneIsDue new → timers new.core ≡ timers m.core → KeepsTimers old new
  times_on was keeps none same = record { keeps = keeps; none_due = none; timers = same ∙ was.timers }

  -- the same natives are as many
  pub as_many : (old new : HostedMachine X B) → new.natives ≡ old.natives → natives_of new ≡ natives_of old
  as_many old new same = ap (λ n. length n.slots.items) same

  -- the image stays, and how many natives there are
  pub image_all : (m : HostedMachine X B) → KeepsImage m m
  image_all m = record { image = refl; natives = refl }

  pub image_on : {old m new : HostedMachine X B} → KeepsImage old m → new.core.image ≡ m.core.image → natives_of new ≡ natives_of m → KeepsImage old new
  image_on was image natives = record { image = image ∙ was.image; natives = natives ∙ was.natives }

use Rattle.std.proofs.Common.{None, pos, refl, w32}
use Rattle.std.proofs.lemmas.Int.{to_z-of_z}
use Rattle.aom_scheduler.specs.declared.request.Request.{Request}
use Rattle.aom_scheduler.specs.declared.request.RequestState.{RequestState}
use Rattle.aom_active_objects.proofs.Calls.{enlists_it}
use Rattle.aom_active_objects.proofs.active.ActiveObjects.enlist.Goals as goal

pub invariant_of-self : goal.invariant_of-self
invariant_of-self c = (enlists_it _ c.self.view_is c.self.invariant c.args.id
    (Request.Object RequestState.Idle (pos 0)) None refl refl (λ order priority. (refl, refl)) c.add.new.self c.insert.new.self c.args.priority _
    (to_z-of_z w32 c.args.priority c.ranges.priority) c.in_order.ensures.entries c.requires.fresh c.add.ensures.added c.insert.ensures).whole

pub returns : goal.returns
returns c = (enlists_it _ c.self.view_is c.self.invariant c.args.id
    (Request.Object RequestState.Idle (pos 0)) None refl refl (λ order priority. (refl, refl)) c.add.new.self c.insert.new.self c.args.priority _
    (to_z-of_z w32 c.args.priority c.ranges.priority) c.in_order.ensures.entries c.requires.fresh c.add.ensures.added c.insert.ensures).enlists

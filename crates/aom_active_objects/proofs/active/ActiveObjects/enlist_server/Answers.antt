use Rattle.std.proofs.Common.{Some, false, refl, w32}
use Rattle.std.proofs.lemmas.Int.{to_z-of_z}
use Rattle.aom_scheduler.specs.declared.request.Request.{Request}
use Rattle.aom_active_objects.proofs.Calls.{enlists_it}
use Rattle.aom_active_objects.proofs.active.ActiveObjects.enlist_server.Goals as goal

pub invariant_of-self : goal.invariant_of-self
invariant_of-self c = (enlists_it _ c.self.view_is c.self.invariant c.args.id
    (Request.Server false) (Some false) refl refl (λ order priority. (refl, refl)) c.add_server.new.self c.insert.new.self c.args.priority _
    (to_z-of_z w32 c.args.priority c.ranges.priority) c.in_order.ensures.entries c.requires.fresh c.add_server.ensures.added c.insert.ensures).whole

pub returns : goal.returns
returns c = (enlists_it _ c.self.view_is c.self.invariant c.args.id
    (Request.Server false) (Some false) refl refl (λ order priority. (refl, refl)) c.add_server.new.self c.insert.new.self c.args.priority _
    (to_z-of_z w32 c.args.priority c.ranges.priority) c.in_order.ensures.entries c.requires.fresh c.add_server.ensures.added c.insert.ensures).enlists

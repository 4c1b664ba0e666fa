-- A server is picked: the machine can serve it, and what it does then is what the checked machine does.
use Rattle.std.proofs.lemmas.Bool.Decides.{nat_tests}
use Rattle.std.proofs.Common.{arith, Some, ap, subst, sym, true, ℕ, ◌∙◌, ◌≡◌}
use Rattle.std.specs.Prelude.{is_some}
use Rattle.aom_image.specs.Image.{Image}
use Rattle.aom_active_objects.specs.Agrees.{Active}
use Rattle.aom_active_objects.specs.Meanings as meanings
use Rattle.aom_scheduler.specs.Requests.{is_server as is_served, request_at}
use Rattle.aom_machine_state.specs.LineBuffer.{LineBuffer}
use Rattle.aom_machine.proofs.SafetyLemmas.{signals_are_ready}
use Rattle.aom_semantics.specs.Places.{named, requested}
use Rattle.aom_semantics.specs.Servers.{is_server}
use Rattle.aom_semantics.specs.State.{OwnedObject, State}
use Rattle.aom_machine_state.specs.declared.parts.Parts.{Parts}
use Rattle.aom_machine_state.specs.declared.progress.Progress.TheVariants.{Turned}
use Rattle.aom_machine_state.specs.Progress.{progress_by}
use Rattle.aom_machine_state.specs.Stands.{MachineModel, Stands, Refines}
use Rattle.aom_machine.specs.Servers.{HasCaller, ServesFirst}
use Rattle.aom_machine.specs.Turns.{Picked}
use Rattle.aom_machine.proofs.Begun.{server_served}
use Rattle.aom_machine.proofs.Queued.{server_can}
use Rattle.aom_machine.proofs.Turning.{Found, found_in, machine_between, serving_after, serving_reported}

module _ (p : Image) (m : Parts) (turned : progress_by m.rest.ended m.stack.tasks ≡ Turned) (a : Active) (id : ℕ) where
  abbrev was : MachineModel
  was = record { image = p; parts = m }

  module _ (s : State) (st : Refines was s) (picks : meanings.Picks m.active a (Some id)) (serves : is_served (request_at a.table id) ≡ true) where
    it_is : Found p m s st (machine_between was s st turned).idle id
    it_is = found_in p m turned a id picks s st

    abbrev x : OwnedObject
    x = it_is.candidate.owned_object

    serving : is_server p x.object.thing ≡ true
    serving = sym (serving_after p m s st (machine_between was s st turned).idle id it_is a picks.0) ∙ serves

    -- the pick of a server takes no signal
    same_active : a ≡ m.active
    same_active = grind (arith, nat_tests, serving_reported p m s st, machine_between, it_is, serving)

    lives : named s.cells x.object.name ≡ Some x.object
    lives = ap (named s.cells) it_is.name ∙ it_is.lives

    asked : is_some (requested s.cells x.object.name) ≡ true
    asked = ap is_some (ap (requested s.cells) it_is.name ∙ it_is.asked)

    can : HasCaller p (record m { active = a }) id
    can = subst (λ y. HasCaller p (record m { active = y }) id) (sym same_active)
        (subst (λ i. HasCaller p m i) it_is.name (server_can p m s st (machine_between was s st turned).idle x lives serving it_is.keeps))

    module _ (reported now : LineBuffer) (new : Parts) (d : ServesFirst p id (record m { active = a }) reported now new) where
      first : ServesFirst p x.object.name m reported now new
      first = subst (λ i. ServesFirst p i m reported now new) (sym it_is.name) (subst (λ y. ServesFirst p id (record m { active = y }) reported now new) same_active d)

  -- the server that is picked can be served
  pub can_serve : Stands was → meanings.Picks m.active a (Some id) → is_served (request_at a.table id) ≡ true → HasCaller p (record m { active = a }) id
  can_serve (s, st) picks serves = can s st picks serves

  pub serves_one : (reported now : LineBuffer) (new : Parts) → meanings.Picks m.active a (Some id) → is_served (request_at a.table id) ≡ true →
      ServesFirst p id (record m { active = a }) reported now new → Picked was true reported now (record { image = p; parts = new })
  serves_one reported now new picks serves d s st =
      let between = machine_between was s st turned in
      let k = it_is s st picks serves in (
        k.candidate,
        k.first,
        ((signals_are_ready p st.typing s st.typed).1 between.idle).first ∙ ap is_some k.first,
        server_served p m s st between k.candidate.owned_object (lives s st picks serves) (serving s st picks serves) k.keeps (asked s st picks serves) reported now new
            (first s st picks serves reported now new d),
      )

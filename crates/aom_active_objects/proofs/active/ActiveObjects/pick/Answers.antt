use Rattle.std.proofs.Common.{sym, ◌∙◌}
use Rattle.aom_active_objects.proofs.Calls.{is_first_ready, none_picked, object_picked, pick_enlisted, pick_signals, server_picked, takes_up}
use Rattle.aom_active_objects.proofs.active.ActiveObjects.pick.Goals as goal

pub returns-in_err-pick : goal.returns-in_err-pick
returns-in_err-pick c = none_picked _ c.self.view_is c.self.invariant c.next_ready.result c.from_residual.result
    (c.in_err-pick.was) c.next_ready.ensures.none c.from_residual.ensures

pub wait_for-requires : goal.wait_for-requires
wait_for-requires c = pick_signals _ c.self.view_is c.self.invariant c.in_ok-pick.pick (sym c.next_ready.ensures.value ∙ c.in_ok-pick.was)

pub set_waiting-requires : goal.set_waiting-requires
set_waiting-requires c = pick_enlisted _ c.self.view_is c.self.invariant c.in_ok-pick.pick (sym c.next_ready.ensures.value ∙ c.in_ok-pick.was)

pub invariant_of-self : goal.invariant_of-self
invariant_of-self c = (takes_up _ c.self.view_is c.self.invariant c.in_ok-pick.pick c.wait_for.new.self c.set_waiting.new.self
    (sym c.is_server.ensures ∙ c.if-is_server.false) (sym c.next_ready.ensures.value ∙ c.in_ok-pick.was) c.wait_for.ensures.taken c.set_waiting.ensures).whole

pub returns-then-is_server : goal.returns-then-is_server
returns-then-is_server c = (
  server_picked _ c.self.view_is c.self.invariant c.in_ok-pick.pick c.is_server.result c.is_server.ensures c.if-is_server.true,
  is_first_ready _ c.self.view_is c.self.invariant c.in_ok-pick.pick (sym c.next_ready.ensures.value ∙ c.in_ok-pick.was),
)

pub returns : goal.returns
returns c = (
  object_picked _ c.self.view_is c.self.invariant c.in_ok-pick.pick _ c.is_server.result c.is_server.ensures c.if-is_server.false
      (takes_up _ c.self.view_is c.self.invariant c.in_ok-pick.pick c.wait_for.new.self c.set_waiting.new.self (sym c.is_server.ensures ∙ c.if-is_server.false)
      (sym c.next_ready.ensures.value ∙ c.in_ok-pick.was) c.wait_for.ensures.taken c.set_waiting.ensures).makes,
  is_first_ready _ c.self.view_is c.self.invariant c.in_ok-pick.pick (sym c.next_ready.ensures.value ∙ c.in_ok-pick.was),
)

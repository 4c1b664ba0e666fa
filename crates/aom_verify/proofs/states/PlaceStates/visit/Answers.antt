-- A place that is not reached, a rule that fails, and flows that are joined.
use Rattle.std.proofs.Common.{◌≡◌, sym, rules}
use Rattle.std.proofs.lemmas.Result.{IfOk-weaker, IfErr-weaker}
use Rattle.aom_abstract_state.specs.Changes.{kept_shape}
use Rattle.aom_verify.specs.Entries.{HasFewEntries}
use Rattle.aom_verify.specs.States.{shapes}
use Rattle.aom_verify.proofs.Few.{room, ways_few}
use Rattle.aom_verify.proofs.Stopping.{stops_rule, stops_visit}
use Rattle.aom_verify.proofs.Visiting.{applies_after, has_instr, visited, visited_none, within_shapes}
use Rattle.aom_verify.proofs.Working.{passed_over, worked_before, worked_more, worked_none}
use Rattle.aom_verify.proofs.states.PlaceStates.visit.Goals as goal

pub flow_of-ruled-requires-clause-instr : goal.flow_of-ruled-requires-clause-instr
flow_of-ruled-requires-clause-instr c = has_instr _ _ _ _ c.requires.spans c.requires.place

pub flow_of-ruled-requires-clause-room : goal.flow_of-ruled-requires-clause-room
flow_of-ruled-requires-clause-room c =
    let here = sym (rw c.in-Some.is at c.kept_at.ensures.shape) in
    let shown : c.shape.result ≡ kept_shape c.args.self.now.nodes c.in-Some.kept = rw (← c.self.view_is) c.shape.ensures in
    let few : HasFewEntries (shapes c.args.self.now) = rw (← c.self.view_is) c.self.invariant.few in
    rw shown (room _ _ _ _ _ c.requires.spans few here)

pub follow-requires-clause-few : goal.follow-requires-clause-few
follow-requires-clause-few c =
    let here = sym (rw c.in-Some.is at c.kept_at.ensures.shape) in
    let shown : c.shape.result ≡ kept_shape c.args.self.now.nodes c.in-Some.kept = rw (← c.self.view_is) c.shape.ensures in
    let few : HasFewEntries (shapes c.args.self.now) = rw (← c.self.view_is) c.self.invariant.few in
    ways_few _ _ _ _ few here (rw (c.in-Ok.is, shown) at c.flow_of-ruled.ensures.few)

pub follow-requires-clause-stands : goal.follow-requires-clause-stands
follow-requires-clause-stands c = rw c.in-Some.is at c.kept_at.ensures.stands

pub returns-in-None-clause-ok : goal.returns-in-None-clause-ok
returns-in-None-clause-ok c = rw c.nothing-in-None.ensures (visited_none _ _ _ _ (sym (rw c.in-None.is at c.kept_at.ensures.shape)))

pub returns-in-Ok-clause-ok : goal.returns-in-Ok-clause-ok
returns-in-Ok-clause-ok c =
    let here = sym (rw c.in-Some.is at c.kept_at.ensures.shape) in
    let shown : c.shape.result ≡ kept_shape c.args.self.now.nodes c.in-Some.kept = rw (← c.self.view_is) c.shape.ensures in
    IfOk-weaker c.follow.result _ _ (λ step h. visited _ _ _ _ _ _ _ step here (rw (c.in-Ok.is, shown) at c.flow_of-ruled.ensures.ok) h.0 h.1) c.follow.ensures.ok

pub returns-in-Ok-clause-err : goal.returns-in-Ok-clause-err
returns-in-Ok-clause-err c =
    let here = sym (rw c.in-Some.is at c.kept_at.ensures.shape) in
    let shown : c.shape.result ≡ kept_shape c.args.self.now.nodes c.in-Some.kept = rw (← c.self.view_is) c.shape.ensures in
    IfErr-weaker c.follow.result _ _ (λ fault h. stops_visit _ _ _ _ _ _ _ _ here (rw (c.in-Ok.is, shown) at c.flow_of-ruled.ensures.ok) h) c.follow.ensures.err

pub returns-in-Err-clause-err : goal.returns-in-Err-clause-err
returns-in-Err-clause-err c =
    let here = sym (rw c.in-Some.is at c.kept_at.ensures.shape) in
    let shown : c.shape.result ≡ kept_shape c.args.self.now.nodes c.in-Some.kept = rw (← c.self.view_is) c.shape.ensures in
    stops_rule _ _ _ _ _ _ c.requires.place here (rw (c.in-Err.is, shown) at c.flow_of-ruled.ensures.err)

pub kept_at-requires : goal.kept_at-requires
kept_at-requires c = c.requires.place

pub follow-requires-clause-within : goal.follow-requires-clause-within
follow-requires-clause-within c = within_shapes _ _ _ _ c.requires.spans (rw (← c.self.view_is) (rw (c.in-Ok.is, c.shape.ensures) at c.flow_of-ruled.ensures.within))

pub follow-requires-clause-room : goal.follow-requires-clause-room
follow-requires-clause-room c = rw (← c.self.view_is) (rw c.shape.ensures at c.flow_of-ruled.ensures.room)

pub returns-then-not-take-clause-ok : goal.returns-then-not-take-clause-ok
returns-then-not-take-clause-ok c = rw c.nothing.ensures (passed_over _ _ _ _ _ _ c.requires.worked c.take.ensures.was (search rules))

pub returns-then-not-take-clause-worked : goal.returns-then-not-take-clause-worked
returns-then-not-take-clause-worked c = worked_before _ _ _ _ _ _ _ c.requires.worked c.take.ensures.was (search rules) c.take.ensures.others

pub returns-in-None-clause-worked : goal.returns-in-None-clause-worked
returns-in-None-clause-worked c = worked_none _ _ _ _ _ _ c.requires.worked (sym (rw c.in-None.is at c.kept_at.ensures.shape)) c.take.ensures.others

pub returns-in-Ok-clause-worked : goal.returns-in-Ok-clause-worked
returns-in-Ok-clause-worked c =
    let here = sym (rw c.in-Some.is at c.kept_at.ensures.shape) in
    let shown : c.shape.result ≡ kept_shape c.args.self.now.nodes c.in-Some.kept = rw (← c.self.view_is) c.shape.ensures in
    let flows = rw (c.in-Ok.is, shown) at c.flow_of-ruled.ensures.ok in
    IfOk-weaker c.follow.result _ _ (λ step h. worked_more _ _ _ _ _ _ _ _ c.requires.worked c.take.ensures.others h.2 h.0.below_old
    (applies_after _ _ _ _ _ _ _ here flows h.0.met)) c.follow.ensures.ok

use Rattle.std.proofs.Common.{rules, ap, ◌<◌, ◌≤◌, ◌∙◌, sym, arith}
use Rattle.aom_run.specs.Calls.{natives_of}
use Rattle.aom_run.proofs.Ending.{first_here, first_later, first_none, from_polled, is_alive_so, is_dead_so}
use Rattle.aom_run.proofs.machine.HostedMachine.next_native.Goals as goal

pub loop-native-init : goal.loop-native-init
loop-native-init g c =
    let is = c.polled-native.ensures ∙ ap (λ r. r.polled) c.rest.ensures in
    (omega (arith, is), λ s st. from_polled c.args.self.now s st _ is)

pub returns-then-is_alive-clause-some : goal.returns-then-is_alive-clause-some
returns-then-is_alive-clause-some g c =
    let i = c.loop-native.invariant in
    let below : c.loop-native.native < natives_of c.args.self.now = search rules in
    (below, i.0, sym c.is_alive.ensures ∙ c.if-is_alive.true, λ s st. i.1 s st ∙ first_here _ _ _ below (is_alive_so c.args.self.now s st _ below (sym c.is_alive.ensures ∙ c.if-is_alive.true)))

pub loop-native-smaller : goal.loop-native-smaller
loop-native-smaller g c =
    let below : c.loop-native.native < natives_of c.args.self.now = search rules in
    omega (arith, below)

pub loop-native-preserved : goal.loop-native-preserved
loop-native-preserved g c =
    let i = c.loop-native.invariant in
    let from = i.0 in
    let below : c.loop-native.native < natives_of c.args.self.now = search rules in
    (omega (arith, from), λ s st. i.1 s st ∙ first_later _ _ _ below (is_dead_so c.args.self.now s st _ below (sym c.is_alive.ensures ∙ c.if-is_alive.false)))

pub returns-clause-none : goal.returns-clause-none
returns-clause-none g c = λ e s st.
    let i = c.loop-native.invariant in
    let past : natives_of c.args.self.now ≤ c.loop-native.native = search rules in
    i.1 s st ∙ first_none s.killed (natives_of c.args.self.now) c.loop-native.native past

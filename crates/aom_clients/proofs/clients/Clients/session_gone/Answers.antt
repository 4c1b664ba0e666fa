use Rattle.std.proofs.Common.{◌≡◌, ◌<◌, length, refl, sym, ap, ◌∙◌, arith}
use Rattle.std.specs.Prelude.{slice_set, slice_index_or}
use Rattle.std.proofs.lemmas.List.{get_or_read}
use Rattle.aom_clients.specs.declared.client.Client.TheVariants.{Unconnected}
use Rattle.aom_clients.specs.Table.{after_server_destroyed}
use Rattle.aom_clients.proofs.Same.{kept-as, state-as}
use Rattle.aom_clients.proofs.clients.Clients.session_gone.Goals as goal
use Rattle.aom_clients.specs.Clients.{session_gone}
use Rattle.aom_clients.proofs.Services.{none-taken, sessions-none}
use Rattle.aom_clients.proofs.Goings.{session-below, session-gone-kept, session-gone-seen}

pub invariant_of-self : goal.invariant_of-self
invariant_of-self c =
    let same = c.take_first.ensures.rest ∙ none-taken c.self.inside.sessions c.args.server c.in_err-client.ensures.first in
    kept-as _ _ _ _ _ _ _ _ _ _ _ _ refl refl refl refl same refl c.self.invariant

pub returns-in_err-client-clause-after : goal.returns-in_err-client-clause-after
returns-in_err-client-clause-after c =
    let none = sessions-none _ _ c.self.inside.queues c.self.inside.connects c.self.inside.sessions c.self.inside.sent _ c.self.view_is c.args.server
    c.in_err-client.ensures.first in
    let same = c.take_first.ensures.rest ∙ none-taken c.self.inside.sessions c.args.server c.in_err-client.ensures.first in
    state-as _ _ _ _ _ c.self.inside.queues _ c.take_first.new.self _ c.self.inside.sent refl refl refl same refl ∙ c.self.view_is
    ∙ sym (ap (λ cs. session_gone c.args.server cs c.args.self.now) none)

pub overflow_cast-client : goal.overflow_cast-client
overflow_cast-client c = omega (
  arith,
  session-below _ _ _ _ _ _ c.self.invariant _ c.self.view_is c.args.server _ c.requires.server c.requires.empty c.in_ok-client.ensures.first _
      c.take_first.ensures.rest c.in_ok-client.ensures.free,
)

pub release-requires-clause-client : goal.release-requires-clause-client
release-requires-clause-client c = session-below _ _ _ _ _ _ c.self.invariant _ c.self.view_is c.args.server _ c.requires.server c.requires.empty
    c.in_ok-client.ensures.first _ c.take_first.ensures.rest c.in_ok-client.ensures.free

pub index-requires : goal.index-requires
index-requires c = omega (
  arith,
  session-below _ _ _ _ _ _ c.self.invariant _ c.self.view_is c.args.server _ c.requires.server c.requires.empty c.in_ok-client.ensures.first _
      c.take_first.ensures.rest c.in_ok-client.ensures.free,
  c.self.invariant.sized.clients_long,
  c.self.inside.clients.ok.0,
)

pub index_mut-requires : goal.index_mut-requires
index_mut-requires c = omega (
  arith,
  session-below _ _ _ _ _ _ c.self.invariant _ c.self.view_is c.args.server _ c.requires.server c.requires.empty c.in_ok-client.ensures.first _
      c.take_first.ensures.rest c.in_ok-client.ensures.free,
  c.self.invariant.sized.clients_long,
  c.self.inside.clients.ok.0,
)

pub invariant_of-self-2 : goal.invariant_of-self-2
invariant_of-self-2 c =
    let cl = c.self.inside.clients.items in
    let d = c.in_ok-client.field-0 in
    let small : d < length cl = omega (
      arith,
      session-below _ _ _ _ _ _ c.self.invariant _ c.self.view_is c.args.server _ c.requires.server c.requires.empty c.in_ok-client.ensures.first _
          c.take_first.ensures.rest c.in_ok-client.ensures.free,
      c.self.invariant.sized.clients_long,
    ) in
    let clients : slice_set cl d c.after_server_destroyed.result ≡ slice_set cl d (after_server_destroyed (slice_index_or cl d Unconnected)) =
    ap (slice_set cl d) (c.after_server_destroyed.ensures ∙ ap after_server_destroyed (get_or_read cl d c.index.result.now small c.index.ensures Unconnected)) in
    kept-as _ _ _ _ _ _ _ _ _ _ _ _ clients refl refl refl c.take_first.ensures.rest c.release.ensures
    (session-gone-kept _ _ _ _ _ _ c.self.invariant _
    c.self.view_is c.args.server _ c.requires.server c.requires.empty c.in_ok-client.ensures.first _ c.take_first.ensures.rest c.in_ok-client.ensures.free)

pub returns-clause-after : goal.returns-clause-after
returns-clause-after c =
    let cl = c.self.inside.clients.items in
    let d = c.in_ok-client.field-0 in
    let small : d < length cl = omega (
      arith,
      session-below _ _ _ _ _ _ c.self.invariant _ c.self.view_is c.args.server _ c.requires.server c.requires.empty c.in_ok-client.ensures.first _
          c.take_first.ensures.rest c.in_ok-client.ensures.free,
      c.self.invariant.sized.clients_long,
    ) in
    let clients : slice_set cl d c.after_server_destroyed.result ≡ slice_set cl d (after_server_destroyed (slice_index_or cl d Unconnected)) =
    ap (slice_set cl d) (c.after_server_destroyed.ensures ∙ ap after_server_destroyed (get_or_read cl d c.index.result.now small c.index.ensures Unconnected)) in
    state-as _ _ _ _ _ c.self.inside.queues _ c.take_first.new.self _ c.release.new.sent clients refl refl c.take_first.ensures.rest c.release.ensures
    ∙ session-gone-seen _ _ _ _ _ _ c.self.invariant
    _ c.self.view_is c.args.server _ c.requires.server c.requires.empty c.in_ok-client.ensures.first _ c.take_first.ensures.rest c.in_ok-client.ensures.free

pub returns-clause-below : goal.returns-clause-below
returns-clause-below c = session-below _ _ _ _ _ _ c.self.invariant _ c.self.view_is c.args.server _ c.requires.server c.requires.empty
    c.in_ok-client.ensures.first _ c.take_first.ensures.rest c.in_ok-client.ensures.free

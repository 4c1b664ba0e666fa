use Rattle.std.proofs.lemmas.Grind.{common_steps}
use Rattle.std.proofs.Common.{◌≡◌, ◌<◌, length, refl, ap, ◌∙◌, arith}
use Rattle.std.specs.Prelude.{slice_set, slice_index_or}
use Rattle.std.proofs.lemmas.List.{get_or_read}
use Rattle.aom_clients.specs.declared.client.Client.TheVariants.{Unconnected}
use Rattle.aom_clients.specs.Table.{released}
use Rattle.aom_clients.proofs.Same.{kept-as}
use Rattle.aom_clients.proofs.Releases.{released-kept}
use Rattle.aom_clients.proofs.clients.Clients.release_session.Goals as goal

pub invariant_of-self : goal.invariant_of-self
invariant_of-self c =
    let cl = c.self.inside.clients.items in
    let few : c.args.client < length cl = omega (arith, c.requires, c.self.invariant.sized.clients_long) in
    let clients : slice_set cl c.args.client c.released.result ≡ slice_set cl c.args.client (released (slice_index_or cl c.args.client Unconnected)) =
    ap (slice_set cl c.args.client) (c.released.ensures ∙ ap released (get_or_read cl c.args.client c.index-was.result.now few c.index-was.ensures Unconnected)) in
    kept-as _ _ _ _ _ _ _ _ _ _ _ _ clients refl refl refl refl refl (released-kept _ _ _ _ _ _ c.self.invariant _ c.self.view_is c.args.client few)

pub returns-clause-session : goal.returns-clause-session
returns-clause-session c = grind (arith, common_steps)

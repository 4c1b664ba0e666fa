use Rattle.std.proofs.Common.{◌+◌, length, ap, ◌∙◌}
use Rattle.std.specs.Prelude.{nat_lt}
use Rattle.aom_clients.specs.Lists.{list_at}
use Rattle.aom_clients.proofs.clients.Clients.has_room.Goals as goal
use Rattle.aom_clients.proofs.Answering.{room-is}
use Rattle.aom_clients.proofs.Steps.{connects-cell, sessions-cell}

pub returns : goal.returns
returns c = ap (λ n. nat_lt (n + c.count-connects.result) c.args.server.most) c.count-sessions.ensures
    ∙ ap (λ n. nat_lt (length (list_at c.self.inside.sessions c.args.server.cell) + n) c.args.server.most) c.count-connects.ensures
    ∙ room-is _ _ _ _ _ _ c.self.invariant _ c.self.view_is c.args.server.cell c.args.server.most

pub count-sessions-requires : goal.count-sessions-requires
count-sessions-requires c = sessions-cell _ _ _ _ _ _ c.self.invariant _ c.self.view_is c.args.server.cell c.requires

pub count-connects-requires : goal.count-connects-requires
count-connects-requires c = connects-cell _ _ _ _ _ _ c.self.invariant _ c.self.view_is c.args.server.cell c.requires

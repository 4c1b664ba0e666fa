use Rattle.std.proofs.Common.{rules, ◌≡◌, ◌≤◌, ◌<◌, ◌∷◌, ◌++◌, [], false, subst, sym}
use Rattle.std.specs.Prelude.{vec_capacity}
use Rattle.std.specs.List.{list_any}
use Rattle.std.specs.Prelude.{◌==◌}
use Rattle.aom_cells.specs.Sessions.{AreNatives}
use Rattle.aom_cells.proofs.Numbers.{one_more}
use Rattle.aom_cells.proofs.sessions.Sessions.kill.Goals as goal
use Rattle.aom_cells.proofs.Numbers.{few}

pub invariant_of-self : goal.invariant_of-self
invariant_of-self c =
    let killed = c.self.inside.killed.items in
    let other : list_any (λ k. k == c.args.native) killed ≡ false = search rules in
    let items : c.push.new.self.items ≡ killed ++ c.args.native ∷ [] = search rules in
    let small : c.args.native < 256 = search rules in
    let room : 256 ≤ vec_capacity c.push.new.self = search rules in
    (room, subst AreNatives (sym items) (one_more killed c.args.native c.self.invariant.1 small other))

pub unwrap-requires : goal.unwrap-requires
unwrap-requires c = search (rules, few)

pub returns : goal.returns
returns c = search rules

use Rattle.std.proofs.Common.{Some, ap, sym, ◌∙◌}
use Rattle.aom_roles.specs.Kinds.{is_active_kind}
use Rattle.aom_machine_instructions.specs.Requests.{provider_of}
use Rattle.aom_machine_instructions.proofs.RequestActs.{active_kind, kind_declared, kind_found, kind_lives}
use Rattle.aom_machine_instructions.proofs.requests.provider.Goals as goal

pub class-requires-clause-lives : goal.class-requires-clause-lives
class-requires-clause-lives c = rw c.this.ensures (kind_lives c.args.linked.now c.args.parts.now c.requires.active)

pub class-class-requires : goal.class-class-requires
class-class-requires c =
    let class = rw c.this.ensures at c.class.ensures in
    kind_declared c.args.linked.now _ c.class.result class c.requires.active

pub unreachable-requires : goal.unreachable-requires
unreachable-requires c =
    let class = rw c.this.ensures at c.class.ensures in
    let kind = kind_found c.args.linked.now _ c.class.result c.class-class.result.now class c.class-class.ensures in
    let is = active_kind c.class-class.result.now.kind (ap is_active_kind (sym kind) ∙ c.requires.active) in
    c.in_default.not-Active is.0 is.1

pub returns : goal.returns
returns c =
    let class = rw c.this.ensures at c.class.ensures in
    let kind = kind_found c.args.linked.now _ c.class.result c.class-class.result.now class c.class-class.ensures in
    ap provider_of (kind ∙ ap (λ k. Some k) c.in-Active.is)

-- A class's own, or what its parent has.
use Rattle.std.proofs.Common.{◌∙◌, sym}
use Rattle.aom_linker.proofs.LinkConditionsLemmas.{no_method, role_found, role_not_inherited}
use Rattle.aom_linker.proofs.Standing.{role_above}
use Rattle.aom_linker.proofs.role_table.role_in.Goals as goal
use Rattle.aom_linker.proofs.role_table.role_in.Goals.{then-is_some-via-then-is_some, then-is_some-via-else-is_some+then-not-is_inherited}

pub returns-then-is_some : goal.returns-then-is_some
returns-then-is_some c =
    let p = c.args.image.now in
    elim c.then-is_some.branch [
      | then-is_some-via-then-is_some w ↦ role_found p c.args.class c.args.role _ c.own_role-own.ensures (sym c.is_some.ensures ∙ w.if-is_some.true)
      | then-is_some-via-else-is_some+then-not-is_inherited w ↦
          c.own_role-own.ensures ∙ role_not_inherited p c.args.class c.args.role (sym w.is_inherited.ensures ∙ w.if-not-is_inherited.true)
    ]

pub returns : goal.returns
returns c =
    let p = c.args.image.now in
    c.role_above.ensures ∙ role_above p c.args.class c.args.role (sym c.own_role-own.ensures ∙ no_method _ (sym c.is_some.ensures ∙ c.if-is_some.false))
    (sym c.is_inherited.ensures ∙ c.if-not-is_inherited.false)

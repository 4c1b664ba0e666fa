use Rattle.std.proofs.Common.{◌≡◌, ◌≤◌, ◌∙◌, ap, sym, subst, arith, length, List}
use Rattle.aom_link_conditions.specs.Roles.{own_role}
use Rattle.aom_linker.specs.Table.{IsRow}
use Rattle.aom_linker.proofs.LinkConditionsLemmas.{each_push, none_there}
use Rattle.aom_linker.proofs.Rows.{no_player}
use Rattle.aom_linker.proofs.role_table.RoleTable.of_image.Goals as goal

pub loop-class-preserved : goal.loop-class-preserved
loop-class-preserved c =
    let number : c.class_number.result ≡ length c.loop-class.rows.items = c.class_number.ensures ∙ sym c.loop-class.invariant.size in
    let here : IsRow c.args.image.now (length c.loop-class.rows.items) c.row_of.result =
    subst (λ k. IsRow c.args.image.now k c.row_of.result) number c.row_of.ensures in
    let rows = each_push (IsRow c.args.image.now) c.loop-class.rows.items c.row_of.result c.loop-class.invariant.rows here in
    record {
      size = (let s = c.in_ok-push.ensures.len in let n = c.loop-class.invariant.size in omega arith);
      rows = λ k. rw c.in_ok-push.ensures.items (rows k);
    }

pub returns : goal.returns
unfolding own_role
returns c =
    let well_formed = c.classes.ensures.well_formed in
    let count = c.len-count.ensures ∙ ap (λ (l : List _). length l) c.classes.ensures.value in
    record {
      rows = c.loop-class.invariant.rows;
      others = λ k r le.
          let past : length c.args.image.now.classes ≤ k =
          (let s = c.loop-class.invariant.size in let t = c.loop-class-test.false in omega (arith, s, t, count, le)) in
          none_there c.args.image.now r k past (no_player _ _ _ k r c.args.image.now.methods well_formed.methods.each past);
    }

-- The methods are typed one after the other, and the first refusal names the first that has no typing.
use Rattle.std.proofs.Common.{◌≡◌, List, length, ◌∙◌, ap, arith}
use Rattle.std.proofs.lemmas.Result.{err_from_is_err_and}
use Rattle.aom_image.specs.Image.{Image}
use Rattle.aom_image.specs.declared.method.Method.{Method}
use Rattle.aom_verify.proofs.StaticBoundsLemmas.{first_more, has_typing, image_strongest, none_first, within_method}
use Rattle.aom_verify.proofs.Refusing.{refuses}
use Rattle.aom_verify.proofs.checked.state_tables_of.Goals as goal

pub state_table_of-requires : goal.state_table_of-requires
state_table_of-requires c =
    let shown : c.methods-methods.result.now ≡ c.args.linked.now.methods = c.methods-methods.ensures.value ∙ ap (λ (p : Image). p.methods) c.image.ensures in
    let count : c.len-index-end.result ≡ length c.args.linked.now.methods = c.len-index-end.ensures ∙ ap (λ (xs : List Method). length xs) shown in
    rw c.number_at.ensures (within_method c.args.linked.now _ (omega (arith, c.loop-index-test.true, count)))

pub returns-in_err-state_table-clause-err : goal.returns-in_err-state_table-clause-err
returns-in_err-state_table-clause-err c =
    let p = err_from_is_err_and c.from_residual-in_err-state_table.result c.from_residual-in_err-state_table.ensures.1 in
    let shown : c.methods-methods.result.now ≡ c.args.linked.now.methods = c.methods-methods.ensures.value ∙ ap (λ (p : Image). p.methods) c.image.ensures in
    let count : c.len-index-end.result ≡ length c.args.linked.now.methods = c.len-index-end.ensures ∙ ap (λ (xs : List Method). length xs) shown in
    let some = within_method c.args.linked.now c.number_at.result (omega (arith, c.loop-index-test.true, count, c.number_at.ensures)) in
    rw (p.1, p.2) (refuses _ _ _ some (λ k below. has_typing _ _ _ (c.loop-index.invariant.first.each k (omega (arith, below, c.number_at.ensures))))
    c.in_err-state_table.ensures.err)

pub loop-index-init : goal.loop-index-init
loop-index-init c = record {
  first = rw c.in_ok-state_tables.ensures.items (none_first _);
  room = omega (arith, c.in_ok-state_tables.ensures.capacity, c.len.ensures, c.len-index-end.ensures);
}

pub unwrap-requires : goal.unwrap-requires
unwrap-requires c = c.push.ensures.succeeds (omega (arith, c.loop-index.invariant.first.size, c.loop-index.invariant.room, c.loop-index-test.true))

pub loop-index-preserved : goal.loop-index-preserved
loop-index-preserved c =
    let strongest = rw c.number_at.ensures at c.in_ok-state_table.ensures.ok in
    let items = rw c.unwrap.ensures at c.push.ensures.items in
    record {
      first = rw items (first_more _ _ _ _ c.loop-index.invariant.first strongest);
      room = omega (arith, c.loop-index.invariant.room, c.push.ensures.capacity);
    }

pub returns-clause-ok : goal.returns-clause-ok
returns-clause-ok c =
    let shown : c.methods-methods.result.now ≡ c.args.linked.now.methods = c.methods-methods.ensures.value ∙ ap (λ (p : Image). p.methods) c.image.ensures in
    let count : c.len-index-end.result ≡ length c.args.linked.now.methods = c.len-index-end.ensures ∙ ap (λ (xs : List Method). length xs) shown in
    let all : c.loop-index.index ≡ length c.args.linked.now.methods = omega (arith, count, c.loop-index-test.false, c.loop-index.auto.index-end) in
    image_strongest _ _ (rw all at c.loop-index.invariant.first)

use Rattle.std.proofs.Common.{◌≡◌, ◌≤◌, ◌+◌, ◌*◌, length, take, sum_by}
use Rattle.aom_image.proofs.form.serialized_len.Given as goal

abbrev pub invariant-loop-method : goal.invariant-loop-method
invariant-loop-method l = record {
  so_far : l.len ≡ 24 + (28 + l.more) * l.classes + sum_by (λ m. 24 + l.more + 8 * length m.code) (take l.method-index l.methods);
  small : l.len ≤ 24 + 32 * l.classes + 8220 * l.method-index;
}

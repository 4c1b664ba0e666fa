use Rattle.std.proofs.Common.{◌≡◌, ◌≤◌, take}
use Rattle.std.specs.Prelude.{count_by}
use Rattle.aom_image.specs.WellFormed.{is_server}
use Rattle.aom_image.proofs.form.servers_in.Given as goal

abbrev pub invariant-loop-class : goal.invariant-loop-class
invariant-loop-class l = record {
  so_far : l.count ≡ count_by is_server (take l.class-index l.classes);
  few : l.count ≤ l.class-index;
}

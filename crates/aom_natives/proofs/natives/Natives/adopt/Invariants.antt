use Rattle.std.proofs.Common.{ℕ, ◌≡◌, ◌≤◌, ◌+◌, [], ◌++◌, Some, map, vec_len, vec_capacity}
use Rattle.std.specs.Prelude.{option_map, replicate}
use Rattle.aom_natives.specs.Owed.{OweNothing}
use Rattle.aom_natives.specs.Slots.{ids_at, AllAgree}
use Rattle.aom_natives.proofs.natives.Natives.adopt.Given as goal

abbrev pub invariant-loop-ids : goal.invariant-loop-ids
invariant-loop-ids g l = record {
  moved : map (option_map (λ x. x.native)) l.slots.items ++ map (λ b. Some b) l.boxes.items ≡ map (λ b. Some b) l.fn.boxes.items;
  room : vec_len l.slots + vec_len l.boxes ≤ vec_capacity l.slots;
  rooms : l.rooms.items ≡ replicate (vec_len l.boxes) [];
  nothing : (k : ℕ) → ids_at (λ x. x.ids) l.slots.items k ≡ [];
  agree : AllAgree (λ x. x.ids) (λ x. (goal.Native-dyn g (x.native.vtable, x.native.value)).owed x.native.value) l.slots.items;
  owe : OweNothing (λ b. (goal.Native-dyn g (b.vtable, b.value)).owed b.value) l.boxes.items;
}

abbrev pub decreases-loop-ids : goal.decreases-loop-ids
decreases-loop-ids g l = vec_len l.boxes

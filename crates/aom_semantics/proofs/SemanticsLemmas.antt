-- The lemmas that other crates cite; what else stands in these proofs is the crate's own.
pub use Rattle.aom_semantics.proofs.Altering.{Alters, Reads, asking, detaching, count_kept, held_kept, moving, named_kept, opening, read_here, read_kept}
pub use Rattle.aom_semantics.proofs.Altering.{read_so, read_there, requests, services, serving, sessions, storing, tidy_kept, slot_release}
pub use Rattle.aom_semantics.proofs.RolesLemmas.{at-set_extending}
pub use Rattle.aom_semantics.proofs.Maps.{Finds, cond_same, found, front_free, held_lives, held_moved, held_named, held_without, named_moved}
pub use Rattle.aom_semantics.proofs.Maps.{named_name, named_without, of_name, one_place, read_unnamed, read_without, requested_moved, requested_unnamed}
pub use Rattle.aom_semantics.proofs.Maps.{requested_without, same_place-true, same_place_along, same_place_comm, same_place_refl, tidy_moved, tidy_without}
pub use Rattle.aom_semantics.proofs.Maps.{transfer, unnamed, unrequested, without_none}

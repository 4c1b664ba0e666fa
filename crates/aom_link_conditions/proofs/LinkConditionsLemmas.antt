-- The lemmas that other crates cite; what else stands in these proofs is the crate's own.
pub use Rattle.aom_link_conditions.proofs.Beginning.{begins_whole}
pub use Rattle.aom_link_conditions.proofs.Bodies.{linked_is_looped}
pub use Rattle.aom_link_conditions.proofs.Each.{both, each_push, join}
pub use Rattle.aom_link_conditions.proofs.Facts.{all_there, at_place, linked_place, of_method}
pub use Rattle.aom_link_conditions.proofs.Finding.{overrider_there}
pub use Rattle.aom_link_conditions.proofs.Keeping.{child_there, keeper_found, keeper_none, keeper_own, keeper_up, no_method, none_kept, none_there, role_alone, role_found, role_nowhere, role_not_inherited, role_up}
pub use Rattle.aom_link_conditions.proofs.Leading.{none_leads}
pub use Rattle.aom_link_conditions.proofs.LoopPlaces.{back_there, begins_there, loop_there, next_there}
pub use Rattle.aom_link_conditions.proofs.Mentioning.{cancels_own, goes_role}
pub use Rattle.aom_link_conditions.proofs.Nested.{back_of_closed, back_within, closed_by, scanned_at}
pub use Rattle.aom_link_conditions.proofs.Nesting.{ClosedBefore, must_pass, next_within}
pub use Rattle.aom_link_conditions.proofs.Playing.{class_is, destroyed, found, main_found, own_found, role_inherits, same_roles}
pub use Rattle.aom_link_conditions.proofs.Views.{has_class, has_method, in_class, in_method, read, within}

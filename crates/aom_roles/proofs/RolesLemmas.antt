-- The lemmas that other crates cite; what else stands in these proofs is the crate's own.
pub use Rattle.aom_roles.proofs.Descending.{along, child, fewer, from_none, from_parent, itself, no_higher, no_parent, none_below, one_class, parent_below}
pub use Rattle.aom_roles.proofs.Descending.{through}
pub use Rattle.aom_roles.proofs.Each.{EachBelow, each_all, each_more, first_here, none_first, none_first_all, refused, reported}
pub use Rattle.aom_roles.proofs.Tables.{at-set_extending, put_at_end}
pub use Rattle.aom_roles.proofs.Things.{stands_along, stands_itself}
pub use Rattle.aom_roles.proofs.Views.{kind_found, kind_past}

-- The lemmas that other crates cite; what else stands in these proofs is the crate's own.
pub use Rattle.aom_abstract_state.proofs.ImageLemmas.{has_along, has_itself}
pub use Rattle.aom_abstract_state.proofs.RolesLemmas.{at-set_extending}
pub use Rattle.aom_abstract_state.proofs.Sets.{has_both, has_first, has_second, has_shared, larger}
pub use Rattle.aom_abstract_state.proofs.Lists.{at_past, at_set_here, at_set_other, at_within, there}
pub use Rattle.aom_abstract_state.proofs.Piling.{length_listed}
pub use Rattle.aom_abstract_state.proofs.Views.{after_there, arguments_there, before_there, class_there, fields_none, fields_some, gives_there, holder_there}
pub use Rattle.aom_abstract_state.proofs.Views.{leaves_there, quiet_there, role_there, words_none, words_some}
pub use Rattle.aom_abstract_state.proofs.Judging.{all_failed, all_passed, failed_first, passed_first}
pub use Rattle.aom_abstract_state.proofs.Ordering.{reflexive, transitive}
pub use Rattle.aom_abstract_state.proofs.Moving.{after, one_on, split}

-- The lemmas that other crates cite; what else stands in these proofs is the crate's own.
pub use Rattle.aom_syntax.proofs.Within.{kept, marked_or, ok_is, passed, saw_word, steps}
pub use Rattle.aom_syntax.proofs.Numbers.{number_between}
pub use Rattle.aom_syntax.proofs.RangedNames.{at_place}
pub use Rattle.aom_syntax.proofs.RangedInstructions.{instruction_within}
pub use Rattle.aom_syntax.proofs.RangedHeaders.{header_within}
pub use Rattle.aom_syntax.proofs.RangedLists.{listed_fits}
pub use Rattle.aom_syntax.proofs.RangedClasses.{class_within}
pub use Rattle.aom_syntax.proofs.RangedHeadings.{heading_within, stands_for}

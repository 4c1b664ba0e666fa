-- The lemmas that other crates cite; what else stands in these proofs is the crate's own.
pub use Rattle.aom_instructions.proofs.Again.{making_parts_again, parts_make_again, rows_are_one}
pub use Rattle.aom_instructions.proofs.Sorts.{call_is, cancel_is, delete_is, loop_is, next_is, operation_is, push_is, return_is, some_rounds, trap_is}

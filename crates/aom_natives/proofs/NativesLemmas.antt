-- The lemmas that other crates cite; what else stands in these proofs is the crate's own.
pub use Rattle.aom_natives.proofs.Ids.{owed-contains, same-out, same-push}

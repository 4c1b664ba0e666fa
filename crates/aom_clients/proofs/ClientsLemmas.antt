-- The lemmas that other crates cite; what else stands in these proofs is the crate's own.
pub use Rattle.aom_clients.proofs.Steps.{queued-of}
pub use Rattle.aom_clients.proofs.Looking.{after-in, first-in, from, from-first, from-next}

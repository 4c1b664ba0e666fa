mod Latest
mod Keeping
mod Marking
mod Between
pub mod DebugProtocolLemmas
pub use Rattle.aom_text.proofs.TextLemmas

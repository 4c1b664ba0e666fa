mod Reporting
mod Ways
mod Monotone
mod Branching
mod Growing
mod Examples
mod RequestExamples
mod NativeExamples
mod MessageExamples
mod FamilyExamples
mod ConstructExamples
pub mod TypingRulesLemmas
pub use Rattle.aom_abstract_state.proofs.AbstractStateLemmas

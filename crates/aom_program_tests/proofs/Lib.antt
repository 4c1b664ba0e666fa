pub use Rattle.aom_natives.proofs.NativesLemmas

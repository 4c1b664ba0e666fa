pub use Rattle.aom_commands.proofs.CommandsLemmas

mod Altering
mod Maps
mod NeedsFail
mod Owning
mod Running
pub mod SemanticsLemmas
pub use Rattle.aom_roles.proofs.RolesLemmas

mod Descending
mod Each
mod Views
mod Tables
mod Things
pub mod RolesLemmas
pub use Rattle.aom_image.proofs.ImageLemmas

pub mod ReadbackLaws
pub mod Naming
pub mod Texts
pub mod Source
pub mod Meaning
pub mod Denotes
pub mod Laws

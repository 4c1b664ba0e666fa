mod Parting
pub mod TextLemmas

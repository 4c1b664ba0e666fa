pub mod Serialization
pub mod Faults
pub mod Codec
pub mod Instructions
pub mod Format
pub mod Reads
pub mod RoundTrip

mod Faulting
mod Lines
mod Timely
mod Messages
mod Further
pub mod ScriptLemmas

mod Prefix
mod Sending
pub mod TranscriptLemmas

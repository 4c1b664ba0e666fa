mod Items
mod Places
mod Keys
mod Ready
mod Picks
mod Timing
pub mod SchedulerLemmas

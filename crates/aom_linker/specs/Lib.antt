pub mod Bodies
pub mod Table

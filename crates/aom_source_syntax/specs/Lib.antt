pub mod Grammar
pub mod Programs
pub mod Reading

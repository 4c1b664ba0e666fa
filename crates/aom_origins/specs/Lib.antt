pub mod Subjects
pub mod Origins

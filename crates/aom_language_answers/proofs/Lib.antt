pub mod Lists
pub mod MessageTexts
pub mod Nesting
pub mod OpenDocuments
pub mod WholeTexts

pub mod Versions
pub mod Operands
pub mod Table
pub mod Mnemonics
pub mod Fits
pub mod Laws

pub mod Decimal
pub mod Lines
pub mod Parts

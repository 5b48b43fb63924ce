pub mod Fraction
pub mod Totals
pub mod Figures
pub mod Examples
pub mod Parts

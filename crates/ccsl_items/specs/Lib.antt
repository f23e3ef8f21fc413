pub mod Formulas
pub mod Laws
pub mod Admissible

pub mod Cuts
pub mod Judged
pub mod TreeCells
pub mod CellTotal

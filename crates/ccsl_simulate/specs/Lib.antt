pub mod Chosen
pub mod Simulation
pub mod Laws
pub mod Outcome
pub mod Going
pub mod Ends

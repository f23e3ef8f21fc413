pub mod RoundTrip
pub mod Ticks

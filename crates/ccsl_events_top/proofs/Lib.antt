mod Streaming
mod Passing
mod Bodies
mod Fronts
mod Ending
mod Effects
mod Making
mod Going
mod Headed
mod Promising
mod Steps
mod Headers
mod Reopening
mod OneHeader
mod OnePlan
mod OneOutcome
pub mod WholeDump

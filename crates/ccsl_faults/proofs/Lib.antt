mod Least
mod Walks
mod Heights
mod Repeats
mod Heads
mod Whole

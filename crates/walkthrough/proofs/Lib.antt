mod Levels
mod Tally

mod Names
mod Kept

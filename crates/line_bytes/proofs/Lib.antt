pub mod Loops
pub mod ReadBack
pub mod InWords

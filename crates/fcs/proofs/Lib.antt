pub mod Bits
pub mod Division
pub mod ByTable
pub mod Entry
pub mod Check
pub mod Pairs
pub mod Shifts
pub mod Found

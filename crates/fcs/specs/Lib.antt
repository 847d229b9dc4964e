pub mod Fcs
pub mod Table
pub mod Check
pub mod Laws

pub mod Promises
pub mod Lent

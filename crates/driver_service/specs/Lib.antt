pub mod Given
pub mod Promises
pub mod Lent

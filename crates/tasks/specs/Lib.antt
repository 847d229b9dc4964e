pub mod Pending
pub mod Answers
pub mod Quality

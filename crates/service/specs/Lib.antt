pub mod Service
pub mod Refusals
pub mod Heard
pub mod LineBook
pub mod LineClaims
pub mod Lists
pub mod Qualities

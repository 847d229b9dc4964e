pub mod Layout
pub mod Valid

pub mod Settings
pub mod RadioFrame

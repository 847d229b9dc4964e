pub mod ReadBack
pub mod Parts

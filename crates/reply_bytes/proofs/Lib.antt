pub mod ReadBack
pub mod Spacing
pub mod Qualities

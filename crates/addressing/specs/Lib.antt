pub mod Addressing
pub mod PanIdCompression

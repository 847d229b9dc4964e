pub mod Laws
pub mod PanIdCompression

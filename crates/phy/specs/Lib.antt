pub mod Phy

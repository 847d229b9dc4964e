pub mod Picked
pub mod RoundTrip

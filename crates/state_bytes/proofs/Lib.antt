pub mod Same
pub mod RoundTrip

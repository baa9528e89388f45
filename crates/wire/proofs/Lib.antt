pub mod Laws
pub mod Bodies
pub mod Causes
pub mod Found
pub mod Written
pub mod RoundTrips
pub mod Altered

pub mod Commands
pub mod BothWays
pub mod RoundTrip
pub mod Tables

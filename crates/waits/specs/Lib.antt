-- words for what waits
pub mod Codes

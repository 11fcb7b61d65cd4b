-- lists that are built from the back, some terms left out
pub mod Sifting
-- which terms are left out
pub mod Leaving

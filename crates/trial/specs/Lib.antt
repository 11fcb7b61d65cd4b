-- what the trial builds, and what it says
pub mod Trials

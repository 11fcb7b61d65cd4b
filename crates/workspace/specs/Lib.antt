-- why a rule finds nothing, and what that says
pub mod Refusals

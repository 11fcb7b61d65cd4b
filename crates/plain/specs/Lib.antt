-- how a node is shown
pub mod Shown

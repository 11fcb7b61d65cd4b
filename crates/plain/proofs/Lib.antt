-- what a number stands for once its node was added
pub mod Building
-- what a view says
pub mod Showing

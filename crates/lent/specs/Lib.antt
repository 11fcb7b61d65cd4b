-- what a stack of lent words holds, and what its methods do to it
pub mod Piles
-- answers that may be refused for want of room
pub mod Answers

pub mod Accounts
pub mod Answers
pub mod Conversations
pub mod Positions
pub mod Refusals
pub mod Requests
pub mod near

pub mod BindTexts
pub mod Binding
pub mod OrderBinding
pub mod Trades
pub mod near

pub mod Desk
pub mod Asking
pub mod AskingLaws

pub mod Number
pub mod Command
pub mod Grammar
pub mod Request

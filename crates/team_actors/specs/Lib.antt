pub mod Rises
pub mod Causes
pub mod Deeds
pub mod Answers

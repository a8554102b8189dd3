pub mod History
pub mod Roster
pub mod Steps
pub mod Ends
pub mod Works
pub mod Phases
pub mod Laws

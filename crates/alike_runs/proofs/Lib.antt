mod Ascending
mod Once
mod Named
mod Opening
mod Closing
mod Slots
pub mod Open
mod Voxels
mod AtDesk
mod Views
mod Fetching
mod Serving
mod Running

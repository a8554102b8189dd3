pub mod RiseLemmas
pub mod RefusalLemmas
pub mod VoxelLemmas
pub mod FrameLemmas
pub mod ServingLemmas
pub mod ActLemmas

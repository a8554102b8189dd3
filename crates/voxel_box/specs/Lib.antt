pub mod BigEndian
pub mod Box

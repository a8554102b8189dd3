pub mod Grid
pub mod GridErr
pub mod Kind
pub mod Pyramid

pub mod Servings

pub mod RootName

pub mod NodeList
pub mod NodeLists
pub mod Ring
pub mod Links

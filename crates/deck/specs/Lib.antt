pub mod Words
pub mod Cards
pub mod Decks
pub mod Doorways
pub mod Laws
pub mod Drafts
pub mod Left
pub mod Refusing

pub mod Lying
pub mod Fronts
pub mod Gluing
pub mod Keeping
pub mod Running
pub mod Outside
pub mod Promising

pub mod KeptLinks
pub mod Walking
pub mod HangingUp
pub mod Ties
pub mod Hanging
pub mod Lost

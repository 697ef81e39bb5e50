pub mod Same
pub mod Standing

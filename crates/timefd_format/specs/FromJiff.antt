pub mod Same
pub mod Read
pub mod Annotated
pub mod Zones
pub mod InForce
pub mod Laws

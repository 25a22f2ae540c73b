pub mod Given
pub mod Filled
pub mod Years
pub mod Sought
pub mod Completed
pub mod Laws

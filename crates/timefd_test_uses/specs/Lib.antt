pub mod Days
pub mod Read
pub mod Positions
pub mod Messages

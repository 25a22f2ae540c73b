pub mod Status
pub mod Kinds
pub mod Arguments
pub mod Line
pub mod Replies
pub mod Runs
pub mod Program

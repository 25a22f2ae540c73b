pub mod Meaning
pub mod Objects
pub mod Results
pub mod Logs

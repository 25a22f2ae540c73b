pub mod Streams
pub mod Buffered
pub mod Transfers
pub mod Words
pub mod CommandLines
pub mod Colors

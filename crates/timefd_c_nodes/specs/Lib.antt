pub mod Encoding
pub mod Writing
pub mod Decoding
pub mod Laws
pub mod Numbers
pub mod Reading
pub mod Formatting
pub mod Dates

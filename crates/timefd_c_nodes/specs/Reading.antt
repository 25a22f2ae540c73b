pub mod Composites
pub mod Pieces
pub mod Progress
pub mod Reports

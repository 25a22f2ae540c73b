pub mod Cures
pub mod Chains
pub mod Lines
pub mod Layouts
pub mod LineChanges
pub mod Rewriting
pub mod Diffs

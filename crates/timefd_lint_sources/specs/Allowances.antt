-- Comments that allow errors and warnings of the descriptions in a line: `// timefd: allow unknown-name`.
pub mod Comments
pub mod Keyed
pub mod Found

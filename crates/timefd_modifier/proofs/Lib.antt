pub mod FieldTests
pub mod EnumTests
pub mod ModifierTests

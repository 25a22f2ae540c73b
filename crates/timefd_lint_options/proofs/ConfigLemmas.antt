pub mod ConfigLemmas
pub mod CallLemmas
pub mod BorrowedLemmas
pub mod LevelLemmas

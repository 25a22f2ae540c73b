pub mod LetterMeaning
pub mod PieceMeaning
pub mod BorrowedLists
pub mod StrftimeReading
pub mod StrftimeAnswers

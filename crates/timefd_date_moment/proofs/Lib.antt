pub mod CalendarLemmas
pub mod DayLemmas
pub mod LawLemmas
pub mod LeapLemmas
pub mod FieldsLemmas
pub mod ReadingLemmas

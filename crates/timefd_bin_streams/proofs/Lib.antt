pub mod WordsLemmas
pub mod BufferedLemmas

pub mod DirectiveLemmas

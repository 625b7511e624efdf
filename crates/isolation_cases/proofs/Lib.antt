pub mod Sentences
pub mod Cases
pub mod Tables
pub mod TableRuns

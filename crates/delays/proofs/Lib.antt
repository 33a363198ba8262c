pub mod TheoryLaws
pub mod TotalLaws

pub mod Answering
pub mod DrawnLaws
pub mod GridLaws
pub mod Optional
pub mod Rings
pub mod Standing
pub mod SurveyFacts
pub mod Walking

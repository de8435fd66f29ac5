pub mod FaultSteps
pub mod ReadingSteps
pub mod SpelledSteps

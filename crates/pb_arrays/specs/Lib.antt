-- Statement
pub mod Wide
pub mod Given
pub mod GivenOptions
pub mod GivenCritical
pub mod Found
pub mod ShownStage
pub mod ShownStream
pub mod ShownTests

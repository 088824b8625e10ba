pub mod Choice
pub mod Tests

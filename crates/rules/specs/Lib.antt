pub mod Lawful
pub mod Records
pub mod RuleTests
pub mod Taking
pub mod Views

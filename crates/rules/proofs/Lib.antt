pub mod Equals
pub mod RuleLaws
pub mod RulesLawful

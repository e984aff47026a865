pub mod ClaimLaws
pub mod Kept
pub mod ReadBack
pub mod Spoken
pub mod RowsAgain
pub mod Again

pub mod Tables
pub mod SortLaws
pub mod Assigned

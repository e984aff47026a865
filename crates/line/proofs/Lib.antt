pub mod NextLines

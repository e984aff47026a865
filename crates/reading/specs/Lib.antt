pub mod Files
pub mod Taking
pub mod Walk

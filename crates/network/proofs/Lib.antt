pub mod Sound
pub mod Valid

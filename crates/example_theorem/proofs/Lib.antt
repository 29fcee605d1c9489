pub mod Town

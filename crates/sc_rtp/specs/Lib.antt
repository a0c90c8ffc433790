pub mod Head
pub mod OneReading
pub mod Packet
pub mod Reading
pub mod Refusal

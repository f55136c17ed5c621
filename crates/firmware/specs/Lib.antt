pub mod Firmware
pub mod Wire
pub mod Serve
pub mod Claims

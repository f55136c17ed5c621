pub mod KindLaws
pub mod MessageLaws
pub mod ReaderLaws
pub mod WriterLaws
pub mod FrameLaws
pub mod Claims

pub mod TestLaws
pub mod FileLaws
pub mod LayoutLaws
pub mod WriterLaws
pub mod WrittenLaws
pub mod Claims

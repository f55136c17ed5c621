pub mod BoxRecordLaws
pub mod CallLaws
pub mod WireLaws
pub mod ServeLaws
pub mod Claims

pub mod TextLaws
pub mod Decimals
pub mod WordLaws
pub mod ReportLaws
pub mod Claims

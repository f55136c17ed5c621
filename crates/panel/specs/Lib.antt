pub mod Panel

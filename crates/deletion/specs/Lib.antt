pub mod Deletion

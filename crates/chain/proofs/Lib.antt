-- In layers: the widths of the numbers on the floors that a list of bytes reaches; the box record in C and the frame on the wire; drill files.
pub mod Widths
pub mod Chain
pub mod Files

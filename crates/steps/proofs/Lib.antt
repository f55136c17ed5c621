-- One file beside the proofs of the functions: what looking at the boxes of a row comes to.
mod ServedLaws

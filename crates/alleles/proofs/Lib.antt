-- What the proof of the join uses.
pub mod Parts

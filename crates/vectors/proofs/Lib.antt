-- What several proofs cite, and the laws of the loop over rows.
pub mod Zeros
pub mod Replaying

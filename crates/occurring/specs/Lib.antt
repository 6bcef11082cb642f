-- That each refusal of the table occurs; proofs/ computes it.
pub mod Occurring

-- The root of the crate's specs.
--     Chains     g. to c. and c. to g., of a transcript built from records
--     Asking     the questions to a transcript of either kind
pub mod Chains
pub mod Asking
pub mod laws

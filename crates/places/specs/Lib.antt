-- The root of the crate's specs. The mappings themselves are defined in `spots`, specs/Mapping.antt.
pub mod laws

-- The root of the crate's specs.
--     Worklist    what a list is answered with: each slot, the steps, the refusals
--     Walking     where the walk stands at a slot
--     Looks       how many entries of the table the walk looks at
--     laws        what is shown of them
pub mod Worklist
pub mod Walking
pub mod Looks
pub mod laws

-- What is shown of the definitions.
--     Refusing    which refusals there are
--     Ordering    the tests that the code makes, in its order, are those of the join
--     Worked      worked examples, computed
pub mod Refusing
pub mod Ordering
pub mod Worked

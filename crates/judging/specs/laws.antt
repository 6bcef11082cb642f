-- What is shown of the definitions.
--     Chain       the judgment's chain of refusals, link by link
--     Told        what the judgment is, by the tally that it is told as
--     Accepted    what is known of an input that building accepts
--     Worked      worked examples of the judgment
pub mod Chain
pub mod Told
pub mod Accepted
pub mod Worked

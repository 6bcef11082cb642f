-- What is shown of the definitions.
--     Largest    `largest` is the largest place within strict bounds, where there is one
--     Slots      as many slots as before, each with its position; a refusal changes none
--     Refusing   which refusals there are, each with an example
--     Worked     a worked list
--     Shared     the four tables as a proof by hand holds them
pub mod Largest
pub mod Slots
pub mod Refusing
pub mod Worked
pub mod Shared

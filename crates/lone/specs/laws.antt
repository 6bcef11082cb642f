-- What is shown of the definitions.
--     Once    g. to n. and back of one number, as the code goes
--     Lone    what a lone base is answered with
pub mod Once
pub mod Lone

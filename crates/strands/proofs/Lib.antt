-- What is shown of the definitions, and no function's proof uses.
pub mod EitherOrder

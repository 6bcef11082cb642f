-- What is shown of the definitions.
--     Refusing    which refusals the two mappings give
--     Keeping     a strict answer is also the lenient one
--     Answered    what is known of an answer's numbers
--     Same        what the test for one c. position tells
--     Once        a position that is both ends of its interval
pub mod Refusing
pub mod Keeping
pub mod Answered
pub mod Same
pub mod Once

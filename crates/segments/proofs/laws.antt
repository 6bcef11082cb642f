-- What is shown of the definitions, where wrong programs change one of those that it rests on.
--     Spotting   a place and its segment
--     Amid       a place of the middle part of a list of elements is found there, and goes where the middle part alone sends it, slid along
pub mod Spotting
pub mod Amid

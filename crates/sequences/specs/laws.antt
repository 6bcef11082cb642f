-- What is shown of the definitions of Alleles and Slices.
--     InCommon    what two lists have in common, from the front and from the back
--     Remaining   what remains of two alleles, by what is around it and by its bounds
--     Parts       what a slice holds without its first bytes, and without its last
pub mod InCommon
pub mod Remaining
pub mod Parts

-- What is shown of whole numbers.
--     Whole      signed numbers in proofs: `omega (order, ..)` and `search whole`
--     Fits       what `fitOf` gives back
--     Machine    tests and casts, as the machine makes them
pub mod Whole
pub mod Fits
pub mod Machine

-- The promises' proofs, from the bottom up. The promises are `demand-2` and `demand-3` of Promises and `table-of-places` of Table; specs/ says what they state.
--     Turns, Fits, Bounds, InRange    the turn of strand -1; 17; a spot lies in -1 to the length; what the proofs ask of a transcript
--     Columns, Edges                matched columns, and the one next to an intron
--     Naming, Demand2               demand 2 of a transcript in range
--     Records, Numbers, Where       the elements of records and their exon numbers, and where a base stands among records
--     Shifts, Lengthening           what stays when bases are added upstream, over elements
--     Demand3                       demand 3 over records whose CIGARs were read
--     Rooms, Built, Counting        what is known of an input that builds, and its exon numbers
--     Promises, Table               the promises
--     Questions                     which a question gives in strict mode
--     Covers                        each place lies in an element
--     Examples, Against             transcripts that meet every premise, and mappers that the promises shut out
pub mod Turns
pub mod Fits
pub mod Bounds
pub mod InRange
pub mod Columns
pub mod Edges
pub mod Naming
pub mod Demand2
pub mod Records
pub mod Numbers
pub mod Where
pub mod Shifts
pub mod Lengthening
pub mod Demand3
pub mod Rooms
pub mod Built
pub mod Counting
pub mod Promises
pub mod Table
pub mod Questions
pub mod Covers
pub mod Examples
pub mod Against

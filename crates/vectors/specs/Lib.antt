-- What the replay's contracts cite.
--     Questions    rows that put a question to a lent transcript
--     Tally        the counts
--     Replay       one row after the other
pub mod Questions
pub mod Tally
pub mod Replay

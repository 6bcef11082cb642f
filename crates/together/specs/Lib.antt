-- What the contracts of `together` cite.
--     Ends    where tables begin and end, and the bits of their ends
pub mod Ends

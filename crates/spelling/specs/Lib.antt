-- What the contracts of `spelling` cite, and the laws that its callers use.
--     Write        what elements are written as
pub mod Write

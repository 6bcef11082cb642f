-- What the contracts of `stepping` cite, and what is shown of it.
--     Steps    a segment's steps as the machine takes them
--     laws     what is shown of them
pub mod Steps
pub mod laws

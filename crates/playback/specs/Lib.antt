-- What the contracts of `playback` cite, and the laws that its callers use.
--     Lines     lines of numbers, and how long they are at most
--     Replay    which entries differ, and what is written of them
pub mod Lines
pub mod Replay
pub mod laws

-- What is shown of the definitions, where wrong programs change one of those that it rests on.
pub mod Replay

-- What is shown of the definitions, where wrong programs change one of those that it rests on.
--     Standing    what building makes holds together, and stands for what was made
pub mod Standing

-- What is shown of the definitions, where wrong programs change one of those that it rests on.
--     Saying      what is said to a question may stand beside it in a log, and the log's table of refusals is the mapper's
--     Agreeing    the six mappings of the boundary and a question as one value say the same
--     Making      a log that was made reads back as each question with what was said to it
pub mod Saying
pub mod Agreeing
pub mod Making

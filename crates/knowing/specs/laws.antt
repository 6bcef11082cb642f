-- What is shown of the definitions.
--     Known    what is known of what is lent, and what a question to it then is
--     Told     what the head tells, and what is known once the tables were looked at
pub mod Known
pub mod Told

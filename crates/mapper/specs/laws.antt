-- What is shown of the definitions.
--     Lying        what each question is where what is lent lies on the genome
--     Refusing     which refusals each question can give
--     Occurring    each of them occurs
--     Keeping      a strict answer is also the lenient one
--     Marks        when an answer of a chain is uncertain
--     Answered     an answer's mark, its exon numbers, and that its numbers fit
pub mod Lying
pub mod Refusing
pub mod Occurring
pub mod Keeping
pub mod Marks
pub mod Answered

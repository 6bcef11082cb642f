-- What the replay's contracts cite of a row by itself.
--     Sizes        the sizes that memory is lent by
--     Words        answers as the words that rows record
--     Changes      rows that build or damage a lent transcript
--     Texts        rows about CIGAR text, cards and alleles
--     Bam          rows about CIGAR words
pub mod Sizes
pub mod Words
pub mod Changes
pub mod Texts
pub mod Bam

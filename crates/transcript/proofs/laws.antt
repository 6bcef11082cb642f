-- What is shown of the definitions, where wrong programs change one of those that it rests on.
--     Numbered    the exon numbers of what records make
pub mod Numbered

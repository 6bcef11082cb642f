-- What is shown of the definitions, where wrong programs change one of those that it rests on.
--     Alike      the table of genome starts is walked as its elements are
--     Along      where the walk stands after i slots: it may go on from there, and never steps back
--     Looking    it looks at fewer entries than there are segments and slots
pub mod Alike
pub mod Along
pub mod Looking

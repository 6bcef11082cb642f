-- Theorems alone: that each refusal of the table occurs, as specs/ states it. They stand in a room of their own, above the table, as they compute for longer than all of `promises`.
pub mod Occurring

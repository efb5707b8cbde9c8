-- Carriage: the gathering reader (01, "Carriage: the reader").
pub mod State
pub mod Marks
pub mod Rules
pub mod Gather
pub mod Calls
pub mod Phases
pub mod Theorems

-- Wrong libraries, and the demands that refuse them (01, "How full each statement is": "See each of these rejected").
pub mod Changed
pub mod One
pub mod Two
pub mod Three

-- The transport packet, as far as the writer and the reader both know it (ISO/IEC 13818-1; 002, clause 6.1; 01, "Carriage").
pub mod Header
pub mod Tests
pub mod Look
pub mod Load

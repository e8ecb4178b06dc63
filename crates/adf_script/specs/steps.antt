-- Definitions for steps: the first words of lines, the fields of a line, the rest of a script, and the result of
-- one packet at a port with one client.
pub mod Words
pub mod Reading
pub mod Left
pub mod Calls

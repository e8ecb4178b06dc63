-- Definitions for steps: the namings below a number, and their counts and positions while they are sorted; the reached blocks
-- while they are found; the places that name a block while they are found; and bytes that repeat a text.
pub mod Below
pub mod Sorting
pub mod Marks
pub mod Reaching
pub mod Placing
pub mod Periods

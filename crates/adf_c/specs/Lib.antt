-- The contracts of the exports: what a handle owns, the packets and answers for C's structs, the result of each
-- call, and what a list of calls amounts to. Definitions for the packets with texts are in `steps`.
pub mod Holding
pub mod ReadOnly
pub mod Desk
pub mod Spelling
pub mod Calls
pub mod Changed
pub mod Map
pub mod Salvaging
pub mod Telling
pub mod History
pub mod Status
pub mod Ends
pub mod Lists
pub mod Buffers
pub mod Dates
pub mod Answers
pub mod Faults
pub mod Findings
pub mod Names
pub mod Owners
pub mod Salvaged
pub mod Blocks
pub mod Images
pub mod Boots
pub mod steps

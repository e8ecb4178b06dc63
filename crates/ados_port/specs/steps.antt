-- Definitions for steps: the queue and its rule, the rings, the closing mark, the history of served packets, the room for a
-- gathering, and what a client took.
pub mod Trails
pub mod ClosingMark
pub mod QueueEnds
pub mod Rule
pub mod QueueCalls
pub mod Sending
pub mod RingEnds
pub mod Desks
pub mod Entries
pub mod HandlerEnds
pub mod Views
pub mod Rooms
pub mod Taking

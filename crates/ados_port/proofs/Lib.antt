-- Lemmas on runs and counts of events: a dead port stays closed, replies come in order, a history is lawful, and lawful lists
-- have a history. Then lemmas on the queue and its rule, on served packets, on the handler's takes, on the rings, on gathering the
-- ends, and on the close; and for callers of a port, on its histories, its steps, its ends, and its clients in threads.
pub mod Numbers
pub mod Serving
pub mod Events
pub mod Closing
pub mod Replies
pub mod Lawful
pub mod Replayed
pub mod Packets
pub mod Moves
pub mod Runs
pub mod Handling
pub mod Takes
pub mod Eachs
pub mod Drains
pub mod Gathers
pub mod Closes
pub mod Kept
pub mod Views
pub mod Places
pub mod Histories
pub mod Joining
pub mod Grows
pub mod Growth
pub mod Joins
pub mod Parting

-- A port and what its server has served; its steps, one by one and as a history; its server's death; the lists of its ends; and
-- the laws. Then definitions for the contracts of a port's ends, of the exchange on one thread with the places of its lists, of a
-- refused run, and of what a client's thread may do to its end. Definitions for steps are in `steps`.
pub mod History
pub mod Gives
pub mod Codes
pub mod Lawful
pub mod Lists
pub mod Laws
pub mod Rings
pub mod Ends
pub mod Batches
pub mod Gathering
pub mod Exchanges
pub mod View
pub mod Refused
pub mod Grown
pub mod steps

-- The entries and the blocks given to files, while they are gathered, and the bytes of files.
pub mod Common
pub mod Copying
pub mod Growing
pub mod Emptying
pub mod Placing
pub mod Finding
pub mod Following
pub mod Answering
pub mod Marked
pub mod DueBlocks
pub mod MissingBlocks
pub mod Reading
pub mod Saving
pub mod Besides
pub mod Undeleting
pub mod Voting
pub mod Settling
pub mod Holding
pub mod Filled
pub mod Ending
mod LostByOwner
mod AccountCommon
mod Marking
mod Walking
mod DamagedHeaders
mod OwnBlocks
mod AllKinds
mod Telling
pub mod KnownCommon
pub mod ByCensus
pub mod SoundParts
pub mod Leaving
pub mod FileBlocks
pub mod PointerBlocks
pub mod ListsGrow
pub mod Claiming
pub mod InOrder
pub mod Splitting
pub mod Naming
pub mod Heading
pub mod Trusting
pub mod Recovering
pub mod ListingDeleted
pub mod Keeping
pub mod Mending
pub mod NamedBlocks
pub mod Hiding

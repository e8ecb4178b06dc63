-- The entries and the blocks given to files, while they are gathered.
pub mod Giving
pub mod Gathering
pub mod Finding
pub mod Keeping
pub mod Undeleting
pub mod Settling
pub mod Counting
pub mod Accounting
pub mod Parts
pub mod Claims
pub mod Naming
pub mod Heading
pub mod Deleting
pub mod Leaving
pub mod Mending

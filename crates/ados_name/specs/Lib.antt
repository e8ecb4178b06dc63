-- Names, comments, paths, protection bits and dates; then how contracts see a step and a text in an array.
pub mod Name
pub mod Fault
pub mod Path
pub mod Protection
pub mod CivilDay
pub mod Date
pub mod StepView
pub mod ShortText

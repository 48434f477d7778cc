-- A page for each request that brought functions of its own, and for each capability beyond the papers;
-- Judged is what five of them cite.
pub mod Listing
pub mod Printing
pub mod MappingFunctions
pub mod Mappings
pub mod Judged
pub mod Samples
pub mod Patterns
pub mod Merging
pub mod Reducing
pub mod MergingReduced
pub mod MadeTexts
pub mod Forms
pub mod TrayFunctions
pub mod TraySample
pub mod TrayTexts
pub mod Trays
pub mod Faults
pub mod Losses
pub mod Saving
pub mod FollowFunctions
pub mod Following
pub mod FollowingLines
pub mod SummaryFunctions
pub mod Summaries
pub mod Comparing

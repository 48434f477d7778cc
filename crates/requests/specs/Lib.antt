-- What the functions that C links allow, page by page.
pub mod MappingFunctions
pub mod SampleFunctions
pub mod PatternFunction
pub mod MergeFunction
pub mod ReduceFunction
pub mod MergeReducedFunction
pub mod TextFunction
pub mod FormFunctions
pub mod TrayFunctions
pub mod TrayTexts
pub mod FaultFunctions
pub mod LossFunctions
pub mod SaveFunctions
pub mod FollowFunctions
pub mod SummaryFunctions
pub mod CompareFunction

-- The demands' page first; then what it leaves to other pages.
pub mod Functions
pub mod Shown
pub mod TextFunctions
pub mod SampleText
pub mod Demands
pub mod Histories
pub mod FromC
pub mod Installing
pub mod Requests
pub mod TableP
pub mod Texts

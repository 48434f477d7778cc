-- Conditions and Ways are for the proofs of the functions; the others prove the claims.
pub mod Conditions
pub mod Loading
pub mod Ways
pub mod Refusing
pub mod Reporting
pub mod Foreign
pub mod MarksSkipped

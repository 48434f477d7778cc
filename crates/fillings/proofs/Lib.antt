pub mod Boards
pub mod Deliveries
pub mod Claims

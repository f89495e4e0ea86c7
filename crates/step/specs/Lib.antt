pub mod Calls
pub mod Deliveries
pub mod Histories
pub mod Outbox
pub mod Steps

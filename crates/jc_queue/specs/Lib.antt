pub mod QueueCalls
pub mod Delayed
pub mod Queued

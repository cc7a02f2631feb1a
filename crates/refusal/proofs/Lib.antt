-- The laws of ordered tests, of scans, of what a passed test tells, and of buffers that a loop writes.
pub mod Named
pub mod Ordered
pub mod Scans
pub mod Passed
pub mod Made

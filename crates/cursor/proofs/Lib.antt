-- The laws of the cursor.
pub mod Windows

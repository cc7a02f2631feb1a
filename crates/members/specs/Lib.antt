-- What the contracts on the members of a class cite.
pub mod Index
pub mod Collection

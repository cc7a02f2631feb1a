-- What a read into the rest of a buffer adds to what was filled.
mod Filled

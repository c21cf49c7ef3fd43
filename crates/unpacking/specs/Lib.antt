-- Where the unpacker stands among the trits, and what it has put by then.
pub mod Standing

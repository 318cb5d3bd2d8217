pub mod Started
pub mod FreshSound
pub mod OnSound
pub mod InWords

pub mod Reading
pub mod Reply
pub mod Tokens
pub mod Trees

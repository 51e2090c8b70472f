pub mod Induction
pub mod Numbers
pub mod Reading
pub mod Trees

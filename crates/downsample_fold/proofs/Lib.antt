pub mod ColumnSteps
pub mod FieldSteps
pub mod RunSteps

pub mod ByteLaws
pub mod Ids
pub mod IdLaws
pub mod KeyFaultLaws
pub mod Keys
pub mod RowParts

pub mod Keys
pub mod KeySearch
pub mod KeyLaws

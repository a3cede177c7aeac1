pub mod KeySets
pub mod Orders

pub mod Common
pub mod Texts
pub mod Clusters
pub mod Ring
pub mod Queue

pub mod Graph
pub mod Paths
pub mod Graphs
pub mod Gathered
pub mod Walking

pub mod Sets
pub mod Flow
pub mod Settle
pub mod Survey
pub mod Lives
pub mod Walks

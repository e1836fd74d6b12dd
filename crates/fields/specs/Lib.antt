pub mod Pick
pub mod Edition
pub mod Fields
pub mod Record
pub mod Table

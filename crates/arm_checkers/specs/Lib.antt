pub mod Passes
pub mod Lawful
pub mod First
pub mod Joints
pub mod Meetings

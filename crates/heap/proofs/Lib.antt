pub mod Cells
pub mod Counted
pub mod RoomAt
pub mod Releases
pub mod Rooms
pub mod Traces

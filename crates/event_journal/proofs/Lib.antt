pub mod RoomLaws
pub mod EditLaws

pub mod AboveLemmas
pub mod PlaceLemmas
mod NumberLemmas
mod RoomLemmas
pub mod TurnLemmas
pub mod IdleLemmas
pub mod TableLemmas
pub mod CascadeLemmas
pub mod Leads

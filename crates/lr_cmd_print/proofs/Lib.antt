pub mod Adding
pub mod DecodeText
pub mod FramesGoOn
pub mod Lines
pub mod PacketsCounted
pub mod PacketsGoOn
pub mod PacketsText

pub mod FrameControl

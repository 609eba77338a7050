pub mod CallCounts
pub mod LedSides
pub mod PatchesHaveFrames
pub mod NoTrackIsLost

-- The laws of the listing's text, and of a whole listing.
pub mod LineLaws
pub mod PieceLaws
pub mod StepLaws
pub mod FeedLaws
pub mod KeptLaws
pub mod CallSound
pub mod Told
pub mod RunLaws
pub mod ReachLaws
pub mod Bench

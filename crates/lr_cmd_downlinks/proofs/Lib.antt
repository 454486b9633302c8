pub mod Flaws
pub mod Merging
pub mod Untaken
pub mod Numbers
pub mod Taken

-- Devices that tell what they hold, and what a call keeps of that.

-- What was told before is told after, and what wasn't isn't.
pub record KeepsTelling (before after : Type 0) : Type 0 where
  pub told : before → after
  pub untold : after → before

-- What comes of a window, whoever decodes it.
use Rattle.lr_lock.specs.Windows.{WindowView}
use Rattle.lr_frame.specs.Outcomes.{redecoded_outcome}
use Rattle.lr_frame.specs.declared.work.FrameDone.{FrameDone}

-- the window, as it was, with the outcome of its frame
abbrev pub done_of : WindowView → FrameDone
done_of window = record {
  window = window;
  outcome = redecoded_outcome window.line window.passes window.symbols;
}

use Rattle.std.proofs.Common.{◌≡◌, ◌≤◌, length, take}
use Rattle.lr_catalog.specs.Texts.{trimmed_text}
use Rattle.lr_catalog.proofs.texts.trim_end.Given as goal

abbrev pub invariant-loop-end : goal.invariant-loop-end
invariant-loop-end l = record {
  within : l.end ≤ length l.text;
  same : trimmed_text l.text ≡ trimmed_text (take l.end l.text);
}

abbrev pub decreases-loop-end : goal.decreases-loop-end
decreases-loop-end l = l.end

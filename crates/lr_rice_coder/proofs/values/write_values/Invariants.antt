use Rattle.std.proofs.Common.{◌≡◌, ◌-◌, ◌∷◌, ◌++◌, get_or, length, take, drop, replicate}
use Rattle.lr_rice_coder.specs.Shortest.{mapped_from}
use Rattle.lr_rice_coder.proofs.values.write_values.Given as goal

-- the values so far and those to come, and the places after them
abbrev pub invariant-loop-i : goal.invariant-loop-i
invariant-loop-i l = record {
  made : take l.i l.places ++ mapped_from l.most (get_or l.samples (l.i - 1) 0) (drop l.i l.samples)
      ≡ 0 ∷ mapped_from l.most (get_or l.samples 0 0) (drop 1 l.samples);
  clear : drop l.i l.places ≡ replicate (length l.places - l.i) 0;
}

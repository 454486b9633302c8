use Rattle.std.proofs.Common.{◌≡◌, ap, sym, subst, refl, arith, ℕ, List, [], replicate, unwrap_or}
use Rattle.std.proofs.lemmas.List.{get_or-replicate}
use Rattle.std.proofs.lemmas.List.Elements.{All-nil}
use Rattle.lr_conv.specs.LineEncoder as encoders
use Rattle.lr_bits.specs.declared.sizes.TheConstants.{CHANNELS}
use Rattle.lr_file.specs.Standing.{AreAscending, kept_of_key}
use Rattle.lr_sent.proofs.Splitting.{bits-none}
use Rattle.lr_uplink.specs.Received.{IsSendable}
use Rattle.lr_uplink.specs.Sent.{frames_before, packets_before, sent}
use Rattle.lr_uplink.specs.Progress.{CountsStandFor, IsAtRest}
use Rattle.lr_uplink.proofs.uplink.Uplink.new.Goals as goal

no_counts : (counts : List ((ℕ × ℕ) × ℕ)) → counts ≡ [] → AreAscending counts → CountsStandFor counts []
unfolding kept_of_key packets_before
no_counts counts none once = record {
  once = once;
  each = λ vc apid. ap (λ (kept : List ((ℕ × ℕ) × ℕ)). unwrap_or (kept_of_key kept vc apid) 0) none;
}

at_rest : IsAtRest (replicate CHANNELS 0) [] 0
unfolding frames_before sent
at_rest = record { count = refl; counted = λ c below. get_or-replicate CHANNELS c 0 0 below }

pub returns : goal.returns
returns c = record {
  files = All-nil IsSendable;
  counts = no_counts c.new-2.result c.new-2.ensures.none c.new-2.ensures.once;
  frames = at_rest;
  given = omega arith;
  blocks = tt;
  encoder = subst (encoders.LineEncoderStandsFor c.new.result c.args.line) (sym bits-none) c.new.ensures;
}

use Rattle.std.proofs.Common.{arith, ap, refl, sym, ◌∙◌, ◌≡◌, ◌<◌, ◌++◌, ℕ, List, length, take, drop, get_or}
use Rattle.std.proofs.Common.{append_assoc, length-append}
use Rattle.std.proofs.lemmas.List.{take_at, drop_at, get_or_append_left, length-take-le}
use Rattle.std.proofs.lemmas.Simd.{put_chunk_whole}
use Rattle.std.specs.Prelude.{replicate}
use borrow.Rule.Slice.PartMut.{put_mid, post_of}
use lib.Lanes.{put_chunk}
use Rattle.lr_lanes.proofs.forward.all_costs.Goals as goal

module _ (zeros others low high : List ℕ) (first : length zeros ≡ 32) (second : length others ≡ 32)
    (low_size : length low ≡ 32) (high_size : length high ≡ 32) where
  abbrev rest : List ℕ
  rest = take 32 (drop 32 (low ++ others))

  rest_size : length (take 32 (drop 32 (low ++ others))) ≡ 32
  rest_size =
      let after : drop 32 (low ++ others) ≡ others = drop_at low others 32 low_size in
      ap (λ z. length (take 32 z)) after ∙ length-take-le 32 others (omega arith)

  pub both : (s : ℕ) → s < 64 → get_or (put_mid 32 32 (put_chunk 0 zeros low ++ others)
      (put_chunk 0 (take 32 (drop 32 (put_chunk 0 zeros low ++ others))) high)) s 0 ≡ get_or (low ++ high) s 0
  both s l =
      let front : put_chunk 0 zeros low ≡ low = put_chunk_whole zeros low (first ∙ sym low_size) in
      let back : put_chunk 0 (take 32 (drop 32 (low ++ others))) high ≡ high =
      put_chunk_whole (take 32 (drop 32 (low ++ others))) high (rest_size ∙ sym high_size) in
      let start : take 32 (low ++ others) ≡ low = take_at low others 32 low_size in
      ap (λ z. get_or (put_mid 32 32 (z ++ others) (put_chunk 0 (take 32 (drop 32 (z ++ others))) high)) s 0) front
      ∙ ap (λ z. get_or (put_mid 32 32 (low ++ others) z) s 0) back
      ∙ ap (λ z. get_or (z ++ (high ++ post_of 32 32 (low ++ others))) s 0) start
      ∙ ap (λ z. get_or z s 0) (sym (append_assoc low high (post_of 32 32 (low ++ others))))
      ∙ get_or_append_left (low ++ high) (post_of 32 32 (low ++ others)) 0 s (omega (arith, length-append low high))

pub returns : goal.returns
returns c = both (replicate 32 0) (replicate 32 0) c.args.low c.args.high refl refl c.requires.low c.requires.high

use Rattle.std.proofs.Common.{◌≡◌, ◌+◌, ◌-◌, ◌++◌, ap, ◌∙◌, ℕ, List, length, take, drop, arith}
use Rattle.std.specs.Int.{to_be_bytes, w32}
use Rattle.std.proofs.lemmas.List.{take_rest}
use Rattle.lr_mend.specs.Marks.{header_bytes_in, marked_bytes}
use Rattle.lr_mend.proofs.marks.marked_bytes.Goals as goal

pub returns : goal.returns
unfolding marked_bytes
returns c =
    let bytes = c.args.bytes.now in
    let mark = c.args.mark.now in
    let size = c.args.size in
    let header = header_bytes_in bytes in
    let same : size ≡ header = c.requires.size in
    let middle : 10 + size - 18 ≡ header - 8 = omega (arith, same) in
    let place : 10 + size ≡ header + 10 = omega (arith, same) in
    let number : c.to_be_bytes.result ≡ to_be_bytes w32 (size + length mark) = c.to_be_bytes.ensures in
    let front : c.extend.new.self ≡ take 14 bytes ++ to_be_bytes w32 (size + length mark) =
    c.in_ok-extend.ensures.ok ∙ (λ i. c.in_ok-made.ensures i ++ number i) in
    let second : c.extend-2.new.self
    ≡ (take 14 bytes ++ to_be_bytes w32 (size + length mark)) ++ take (10 + size - 18) (drop 18 bytes) =
    c.in_ok-extend-2.ensures.ok ∙ ap (λ (made : List ℕ). made ++ take (10 + size - 18) (drop 18 bytes)) front in
    let third : c.extend-3.new.self
    ≡ ((take 14 bytes ++ to_be_bytes w32 (size + length mark)) ++ take (10 + size - 18) (drop 18 bytes)) ++ mark =
    c.in_ok-extend-3.ensures.ok ∙ ap (λ (made : List ℕ). made ++ mark) second in
    let back = take_rest bytes (10 + size) in
    c.in_ok-extend-4.ensures.ok
    ∙ (λ i. third i ++ back i)
    ∙ (λ i. (((take 14 bytes ++ to_be_bytes w32 (same i + length mark)) ++ take (middle i) (drop 18 bytes)) ++ mark)
    ++ drop (place i) bytes)

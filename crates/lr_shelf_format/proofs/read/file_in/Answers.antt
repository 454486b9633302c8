use Rattle.std.proofs.Common.{◌≡◌, ◌-◌, ◌+◌, ◌*◌, ◌++◌, [], List, ℕ, take, drop, refl, sym, ap, ◌∙◌, arith}
use Rattle.std.proofs.lemmas.List.{drop-drop, take_rest}
use Rattle.lr_shelf_format.specs.Record.{numbers_in}
use Rattle.lr_shelf_format.proofs.RecordLemmas.{MakeFile-read, file_of-read}
use Rattle.lr_shelf_format.proofs.read.file_in.Goals.{In_ok-extend}
use Rattle.lr_shelf_format.proofs.read.file_in.Goals as goal

-- the bytes after the lengths, as many as the head says
body_is : (bytes before piece body : List ℕ) (front k t : ℕ) → body ≡ before ++ piece → before ≡ []
    → piece ≡ take (front + 2 * k + t - (front + 2 * k)) (drop (front + 2 * k) bytes)
    → body ≡ take t (drop (2 * k) (drop front bytes))
body_is bytes before piece body front k t all none there =
    let size : front + 2 * k + t - (front + 2 * k) ≡ t = omega arith in
    all ∙ ap (λ l. l ++ piece) none ∙ there ∙ ap (λ n. take n (drop (front + 2 * k) bytes)) size
    ∙ ap (take t) (ap (λ n. drop n bytes) (omega arith) ∙ sym (drop-drop (2 * k) front bytes))

-- the lengths and the body that are read
module _ (c : In_ok-extend) where
  lengths : c.in_ok-lengths.lengths ≡ numbers_in c.args.head.packets (drop c.args.front c.args.bytes.now)
  lengths =
      c.in_ok-lengths.ensures
      ∙ ap (λ (l : List ℕ). numbers_in c.args.head.packets l) (take_rest c.args.bytes.now c.args.front)

  body : c.extend.new.self
      ≡ take c.args.head.bytes (drop (2 * c.args.head.packets) (drop c.args.front c.args.bytes.now))
  body =
      body_is c.args.bytes.now c.new-body.result _ c.extend.new.self c.args.front c.args.head.packets c.args.head.bytes
      c.in_ok-extend.ensures.ok c.new-body.ensures refl

pub unreachable-requires : goal.unreachable-requires
unreachable-requires c =
    let to = (goal.at.unreachable-requires c).In_ok-extend in
    c.in_default.ensures
    (MakeFile-read c.args.head c.args.front c.args.bytes.now c.requires.head c.requires.body c.in_ok-lengths.lengths
    c.extend.new.self (lengths to) (body to))

pub returns : goal.returns
returns c =
    let to = (goal.at.returns c).In_ok-extend in
    c.in-Some.ensures.1 ∙ file_of-read c.args.head c.args.front c.args.bytes.now c.requires.head c.requires.body
    c.in_ok-lengths.lengths c.extend.new.self (lengths to) (body to)

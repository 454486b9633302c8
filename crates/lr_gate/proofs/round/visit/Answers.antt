use Rattle.std.proofs.Common.{arith, ◌≡◌, ℕ, ◌+◌, ◌-◌, sym, ap, ◌∙◌, refl, ◌∷◌}
use Rattle.atomic_table.specs.Table.{rest}
use Rattle.lr_gate.specs.declared.slot_value.SlotValue.TheVariants.{Given, Made}
use Rattle.lr_gate.specs.Shows.{held_job}
use Rattle.lr_gate.proofs.Lists.{same_job}
use Rattle.lr_gate.proofs.Claims.{looks_go, claims_go, finishes_go}
use Rattle.lr_gate.proofs.round.visit.Goals as goal

pub load-word-requires : goal.load-word-requires
load-word-requires g c = let mine = c.requires.mine in let size = c.args.gate.now.sized in (
  mine.table,
  omega (arith, size.words, c.requires.cell),
  looks_go _ _ _ _ _ _ _ mine.live
      (omega (arith, size.cells_are, c.requires.cell)),
)

pub compare_exchange-found-requires : goal.compare_exchange-found-requires
compare_exchange-found-requires g c = let mine = c.requires.mine in let size = c.args.gate.now.sized in
    let me = c.load-word.ensures.2.0 in let job = c.load-word.ensures.2.1 c.if-word-ne1.false (omega arith) in (
      c.load-word.ensures.0 ∙ mine.table,
      omega (arith, size.words, c.requires.cell),
      claims_go _ _ _ _ _ _ _ _ _ job.0 (ap (λ m. m.0.spent) me ∙ mine.live) (ap (λ m. m.0.held) me ∙ mine.free)
          (omega arith) (omega (arith, size.cells_are, c.requires.cell)) job.2
          (omega (arith, ap (λ m. m.0.number) me, mine.number_is)) (c.args.seat.now.me.0.reads, ap (λ m. m.0.reads) me),
    )

pub exchange-requires : goal.exchange-requires
exchange-requires g c = let got = c.compare_exchange-found.ensures.2.1 c.if-found-word.false in
    let place : c.args.cell + 1 - 1 ≡ c.args.cell = omega arith in (
      c.compare_exchange-found.ensures.0 ∙ (c.load-word.ensures.0 ∙ c.requires.mine.table),
      (
        Given got.1,
        ap (λ m. m.1) got.6 ∙ (ap (λ (z : ℕ). (z, Given got.1) ∷ c.load-word.new.seat.me.1) place
            ∙ ap (λ m. (c.args.cell, Given got.1) ∷ rest m.1) (sym got.6)),
      ),
    )

pub store-requires : goal.store-requires
store-requires g c = let mine = c.requires.mine in let size = c.args.gate.now.sized in
    let cell : ℕ = c.args.cell in let me = c.load-word.ensures.2.0 in
    let got = c.compare_exchange-found.ensures.2.1 c.if-found-word.false in let ex1 = c.exchange.ensures in
    let ex2 = c.exchange-empty.ensures.3 in let place : cell + 1 - 1 ≡ cell = omega arith in
    let same : c.in-Given.job ≡ got.1 = same_job cell (cell + 1 - 1) c.in-Given.job got.1
    (rest c.compare_exchange-found.new.seat.me.1) c.load-word.new.seat.me.1
    (ap (λ x. (cell, x) ∷ rest c.compare_exchange-found.new.seat.me.1) (sym c.in-Given.is)
    ∙ (sym ex1.2 ∙ ap (λ m. m.1) got.6)) in
    let made : c.run-made.result ≡ g.W.Work.gives got.1 = c.run-made.ensures ∙ ap g.W.Work.gives same in (
      c.exchange-empty.ensures.0
          ∙ (ex1.0 ∙ (c.compare_exchange-found.ensures.0 ∙ (c.load-word.ensures.0 ∙ mine.table))),
      omega (arith, size.words, c.requires.cell),
      finishes_go _ _ _ _ _ _ _ _ cell (held_job (cell + 1 - 1) got.0 got.1) _
          (ap (λ m. m.0.spent) ex2
          ∙ (ap (λ m. m.0.spent) ex1.3 ∙ (ap (λ m. m.0.spent) got.6 ∙ (ap (λ m. m.0.spent) me ∙ mine.live))))
          (ap (λ m. m.0.held) ex2 ∙ (ap (λ m. m.0.held) ex1.3 ∙ ap (λ m. m.0.held) got.6)) place
          (ap (λ m. m.1) ex2 ∙ ap (λ x. (cell, Made x) ∷ rest c.exchange.new.seat.me.1) made) refl
          (omega (arith, got.2)),
    )

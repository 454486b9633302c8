use Rattle.std.proofs.Common.{rules, arith, ◌≡◌, ℕ, ◌%◌, ◌<◌, refl, sym, ap, ◌∙◌, length, length-append, [], ◌∷◌}
use Rattle.atomic_table.specs.Table.{rest}
use Rattle.lr_gate.specs.Steps.{put_view}
use Rattle.lr_gate.proofs.Lists.{rest_free}
use Rattle.lr_gate.proofs.Keeps.{puts_go}
use Rattle.lr_gate.proofs.gate.Conductor.put.Goals as goal

pub store-requires : goal.store-requires
store-requires g c = let mine = c.requires.mine in let size = c.args.gate.now.sized in
    let put : ℕ = c.args.self.now.put in let now = c.exchange-empty.ensures.3 in
    let sized : c.args.gate.now.table.shared.key.cells ≡ c.args.gate.now.cells = size.cells_are in
    let near : put % c.args.gate.now.cells < c.args.gate.now.cells = search rules in (
      search rules,
      omega (arith, size.words, near),
      puts_go _ _ _ _ _ _ _ _ (put % c.args.gate.now.cells) put c.args.job _ (c.exchange-empty.ensures.1
          ∙ mine.id) (ap (λ m. m.1) now) (mine.put_is ∙ ap (λ m. length m.0.jobs) (sym now))
          (ap (λ (z : ℕ). put % z) (sym sized)) refl refl (omega (arith, c.requires.few, mine.put_is))
          (omega (arith, mine.taken_is, mine.behind, sized, c.if-self-gate.false, ap (λ m. m.0.taken) now)),
    )

pub returns-clause-mine : goal.returns-clause-mine
returns-clause-mine g c = let mine = c.requires.mine in let now = c.exchange-empty.ensures.3 in
    let then = c.store.ensures.2 ∙ ap (λ m. (put_view m.0 m.1, rest m.1)) now in
    let less = c.if-self-gate.false in record {
      table = c.store.ensures.0 ∙ (c.exchange-empty.ensures.0 ∙ mine.table);
      id = c.store.ensures.1 ∙ (c.exchange-empty.ensures.1 ∙ mine.id);
      number = ap (λ m. m.0.number) then ∙ mine.number;
      live = ap (λ m. m.0.spent) then ∙ mine.live;
      free = ap (λ m. m.0.held) then ∙ mine.free;
      put_is = omega (
        arith,
        mine.put_is,
        ap (λ m. length m.0.jobs) then,
        length-append c.args.self.now.seat.me.0.jobs (c.args.job ∷ []),
      );
      taken_is = mine.taken_is ∙ ap (λ m. m.0.taken) (sym then);
      behind = omega (arith, mine.behind);
      within = omega (arith, mine.behind, less);
      few = omega (arith, c.requires.few, mine.put_is);
      stocked = ap (λ m. m.0.stocked) then ∙ mine.stocked;
      resting = ap (λ m. m.0.taking) then ∙ mine.resting;
      crew_is = ap (λ m. m.0.split_off) then ∙ mine.crew_is;
      frees = ap (λ m. m.1) then
          ∙ (ap rest mine.frees ∙ rest_free c.args.gate.now.cells c.args.self.now.put c.args.self.now.taken
          (omega (arith, mine.behind, less)));
    }

pub returns-then-self-gate-clause-full : goal.returns-then-self-gate-clause-full
returns-then-self-gate-clause-full g c = let mine = c.requires.mine in
    (λ _. omega (arith, mine.put_is, mine.taken_is, mine.within, c.if-self-gate.true), λ _. refl)

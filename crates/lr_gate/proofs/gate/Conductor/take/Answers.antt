use Rattle.std.proofs.Common.{rules, arith, ◌≡◌, ℕ, ◌+◌, ◌%◌, ◌<◌, sym, ap, ap₂, ◌∙◌, length, [], ◌∷◌, ◌++◌}
use Rattle.atomic_table.specs.Table.{rest, turned}
use Rattle.lr_gate.specs.declared.slot_value.SlotValue.TheVariants.{Empty, Made}
use Rattle.lr_gate.specs.Steps.{after_take}
use Rattle.lr_gate.proofs.Lists.{free_snoc}
use Rattle.lr_gate.proofs.Takes.{grabs_go, takes_go}
use Rattle.lr_gate.proofs.gate.Conductor.take.Goals as goal

pub load-word-requires : goal.load-word-requires
load-word-requires g c = let mine = c.requires.mine in let size = c.args.gate.now.sized in
    let taken : ℕ = c.args.self.now.taken in let cells : ℕ = c.args.gate.now.cells in
    let near : taken % cells < cells = search rules in (
      mine.table,
      omega (arith, size.words, near),
      grabs_go _ _ _ _ _ _ _ (size.slots ∙ sym size.cells_are) mine.id
          (omega (arith, mine.put_is, mine.taken_is, mine.behind, c.if-self.false)) mine.resting
          (ap (λ (z : ℕ). z + 1) (ap₂ (λ (a b : ℕ). a % b) mine.taken_is (sym size.cells_are))),
    )

pub exchange-slot_value-requires : goal.exchange-slot_value-requires
exchange-slot_value-requires g c = let mine = c.requires.mine in let size = c.args.gate.now.sized in
    let taken : ℕ = c.args.self.now.taken in let cells : ℕ = c.args.gate.now.cells in
    let got = c.load-word.ensures.2.0 c.if-word-ne2.false in
    let place : c.args.self.now.seat.me.0.taken % c.args.gate.now.table.shared.table_id.slots ≡ taken % cells =
    ap₂ (λ (a b : ℕ). a % b) (sym mine.taken_is) size.slots in (
      c.load-word.ensures.0 ∙ mine.table,
      (
        Made (g.W.Work.gives got.0),
        ap (λ m. m.1) got.2 ∙ (ap (λ (z : ℕ). (z, Made (g.W.Work.gives got.0)) ∷ c.args.self.now.seat.me.1) place
            ∙ ap (λ m. (taken % cells, Made (g.W.Work.gives got.0)) ∷ rest m.1) (sym got.2)),
      ),
    )

pub store-requires : goal.store-requires
store-requires g c = let mine = c.requires.mine in let size = c.args.gate.now.sized in
    let taken : ℕ = c.args.self.now.taken in let cells : ℕ = c.args.gate.now.cells in
    let near : taken % cells < cells = search rules in let got = c.load-word.ensures.2.0 c.if-word-ne2.false in
    let ex = c.exchange-slot_value.ensures.3 in (
      c.exchange-slot_value.ensures.0 ∙ (c.load-word.ensures.0 ∙ mine.table),
      omega (arith, size.words, near),
      takes_go _ _ _ _ _ _ _ (c.exchange-slot_value.ensures.1 ∙ (c.load-word.ensures.1 ∙ mine.id))
          (ap (λ m. m.0.taking) ex ∙ ap (λ m. m.0.taking) got.2) (ap (λ m. m.0.stocked) ex
          ∙ (ap (λ m. m.0.stocked) got.2 ∙ mine.stocked))
          (ap (λ (z : ℕ). z + 1)
          (ap₂ (λ (a b : ℕ). a % b) (mine.taken_is
          ∙ (ap (λ m. m.0.taken) (sym got.2) ∙ ap (λ m. m.0.taken) (sym ex))) (sym size.cells_are))),
    )

pub returns-clause-mine : goal.returns-clause-mine
returns-clause-mine g c = let mine = c.requires.mine in let size = c.args.gate.now.sized in
    let taken : ℕ = c.args.self.now.taken in let cells : ℕ = c.args.gate.now.cells in
    let put : ℕ = c.args.self.now.put in
    let got = c.load-word.ensures.2.0 c.if-word-ne2.false in let ex = c.exchange-slot_value.ensures.3 in
    let then = c.turn.ensures.2 ∙ (ap (λ m. (m.0, turned m.1)) c.store.ensures.2
    ∙ (ap (λ m. (after_take m.0, turned m.1)) ex
    ∙ ap (λ m. (after_take m.0, rest m.1 ++ (taken % cells, Empty) ∷ [])) got.2)) in record {
      table = c.turn.ensures.0
          ∙ (c.store.ensures.0 ∙ (c.exchange-slot_value.ensures.0 ∙ (c.load-word.ensures.0 ∙ mine.table)));
      id = c.turn.ensures.1 ∙ (c.store.ensures.1
          ∙ (c.exchange-slot_value.ensures.1 ∙ (c.load-word.ensures.1 ∙ mine.id)));
      number = ap (λ m. m.0.number) then ∙ mine.number;
      live = ap (λ m. m.0.spent) then ∙ mine.live;
      free = ap (λ m. m.0.held) then ∙ mine.free;
      put_is = mine.put_is ∙ ap (λ m. length m.0.jobs) (sym then);
      taken_is = ap (λ (z : ℕ). z + 1) mine.taken_is ∙ ap (λ m. m.0.taken) (sym then);
      behind = omega (arith, mine.behind, c.if-self.false);
      within = omega (arith, mine.within);
      few = mine.few;
      stocked = ap (λ m. m.0.stocked) then ∙ mine.stocked;
      resting = ap (λ m. m.0.taking) then;
      crew_is = ap (λ m. m.0.split_off) then ∙ mine.crew_is;
      frees = ap (λ m. m.1) then ∙ (ap (λ cs. cs ++ (taken % cells, Empty) ∷ []) mine.frees
          ∙ free_snoc cells put taken mine.behind mine.within);
    }

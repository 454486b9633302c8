use Rattle.std.proofs.Common.{rules, arith, ◌≡◌, ◌∙◌, ℕ, ◌+◌, sym, ap, subst, replicate, length}
use lib.ListN.{length-replicate}
use Rattle.atomic_table.specs.Table.{opening}
use Rattle.lr_gatecore.specs.declared.ring_size.RingSize.{RingSize}
use Rattle.lr_gate.specs.declared.slot_value.SlotValue.TheVariants.{Empty}
use Rattle.lr_gate.specs.Shows.{Shows}
use Rattle.lr_gate.specs.Steps.{new_view}
use Rattle.lr_gate.proofs.Makes.{opens, stocks_go}
use Rattle.lr_gate.proofs.gate.Gate.build.Goals as goal

pub new-requires : goal.new-requires
new-requires g c = let n : ℕ = c.args.cells in
    let size : RingSize = record { cells = n; workers = c.args.workers } in
    let items : c.in_ok-words.words.items ≡ replicate (n + 1) 0 = search rules in
    let ws : c.as_slice.result.now ≡ replicate (n + 1) 0 = c.as_slice.ensures.value ∙ items in
    subst (λ xs. Shows g.W.Work.gives size (opening c.as_slice.result.now xs (new_view 0)))
    (sym c.in_ok-slots.ensures)
    (subst (λ ws. Shows g.W.Work.gives size (opening ws (replicate n Empty) (new_view 0))) (sym ws)
    (opens g.W.Work.gives c.args.workers n c.requires.cells.0))

pub load-requires : goal.load-requires
load-requires g c = let n : ℕ = c.args.cells in let ok = c.in-Ok.ensures.ok in
    let many : length c.in_ok-slots.slots.items ≡ n = ap length c.in_ok-slots.ensures ∙ length-replicate n Empty in
    let long : length c.in_ok-words.words.items ≡ n + 1 = search rules in
    let same : length c.as_slice.result.now ≡ n + 1 = ap length c.as_slice.ensures.value ∙ long in (
      ok.2,
      omega (arith, ok.0, same),
      stocks_go _ _ _ _ _ _ _
          (ok.1 ∙ (many ∙ ap (λ k. k.cells) (sym ok.5))) ok.3 ok.4,
    )

pub invariant_of-gate : goal.invariant_of-gate
invariant_of-gate g c =
    let n : ℕ = c.args.cells in
    let ok = c.in-Ok.ensures.ok in
    let many : length c.in_ok-slots.slots.items ≡ n = ap length c.in_ok-slots.ensures ∙ length-replicate n Empty in
    let long : length c.in_ok-words.words.items ≡ n + 1 = search rules in
    let same : length c.as_slice.result.now ≡ n + 1 = ap length c.as_slice.ensures.value ∙ long in
    record {
      sized = record {
        slots = ok.1 ∙ (many ∙ sym c.from.ensures);
        words = omega (arith, ok.0, same, c.from.ensures);
        cells_are = ap (λ (size : RingSize). size.cells) ok.5 ∙ sym c.from.ensures;
        workers_are = ap (λ (size : RingSize). size.workers) ok.5 ∙ sym c.from-2.ensures;
        some_cell = omega (arith, c.requires.cells.0, c.from.ensures);
        most_cells = omega (arith, c.requires.cells.1, c.from.ensures);
        most_workers = omega (arith, c.requires.workers, c.from-2.ensures);
      };
    }

use Rattle.std.proofs.Common.{◌≡◌, ◌<◌, ◌≤◌, Option, ℕ, get_or, length, subst, sym, arith}
use Rattle.std.proofs.lemmas.Result.{err_from_is_err_and}
use Rattle.lr_cmd_receive.specs.Noted.{noted_file, noted_with}
use Rattle.lr_cmd_receive.proofs.Noted.{length-noted, noted_at}
use Rattle.lr_cmd_receive.proofs.Pieces.{all_shelved, one_file_more, one_stopped, shelved_none}
use Rattle.lr_causes.specs.Outside.{outlets, outlets_of}
use Rattle.lr_cmd_receive.proofs.shelve.shelve_all.Goals as goal

pub loop-place-init : goal.loop-place-init
loop-place-init g c =
    record {
      so_far = shelved_none (outlets_of g.D.Disk g.O.Sink) c.args.shelf.now
          (outlets c.args.disk.now c.args.out.now);
    }

pub loop-place-preserved : goal.loop-place-preserved
loop-place-preserved g c = record {
  so_far =
      let all = noted_with c.args.files.now c.args.fillers.now in
      let place = c.loop-place.place in
      let inside : place < length c.args.files.now = omega arith in
      let placed = c.index-files-place.result in
      one_file_more (outlets_of g.D.Disk g.O.Sink) all place c.loop-place.invariant.so_far
      (noted_file placed c.number_at.result)
      (omega (arith, inside, length-noted c.args.files.now c.args.fillers.now))
      (subst (λ (fillers : Option ℕ). noted_file placed fillers ≡ get_or all place (noted_file placed fillers))
      (sym c.number_at.ensures)
      (noted_at c.args.files.now c.args.fillers.now place placed _ inside c.index-files-place.is))
      c.in_ok-shelve.ensures.shelved;
}

pub returns-in_err-shelve-clause-stopped : goal.returns-in_err-shelve-clause-stopped
returns-in_err-shelve-clause-stopped g c =
    let all = noted_with c.args.files.now c.args.fillers.now in
    let place = c.loop-place.place in
    let inside : place < length c.args.files.now = omega arith in
    let placed = c.index-files-place.result in
    let p = err_from_is_err_and c.from_residual.result c.from_residual.ensures.1 in
    rw (p.1, p.2)
    (one_stopped (outlets_of g.D.Disk g.O.Sink) all place c.loop-place.invariant.so_far
    (noted_file placed c.number_at.result)
    (omega (arith, inside, length-noted c.args.files.now c.args.fillers.now))
    (subst (λ (fillers : Option ℕ). noted_file placed fillers ≡ get_or all place (noted_file placed fillers))
    (sym c.number_at.ensures)
    (noted_at c.args.files.now c.args.fillers.now place placed _ inside c.index-files-place.is))
    c.in_err-shelve.ensures.stopped)

pub returns-clause-shelved : goal.returns-clause-shelved
returns-clause-shelved g c =
    let past : length c.args.files.now ≤ c.loop-place.place = omega arith in
    all_shelved (outlets_of g.D.Disk g.O.Sink) (noted_with c.args.files.now c.args.fillers.now) c.loop-place.place
    c.loop-place.invariant.so_far (omega (arith, past, length-noted c.args.files.now c.args.fillers.now))

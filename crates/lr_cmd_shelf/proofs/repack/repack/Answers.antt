use Rattle.std.proofs.Common.{ℕ, List, subst}
use Rattle.lr_causes.specs.Puts.{Puts, PutFails}
use Rattle.lr_shelf.specs.Append.{item_for}
use Rattle.lr_shelf.proofs.Loaded.{ready_loaded}
use Rattle.lr_cmd_shelf.proofs.AddingEnds.{not_loaded}
use Rattle.lr_refusals.proofs.Answering.{error_is, given, refused, unrefused}
use Rattle.lr_cmd_shelf.specs.Repack.{repack_query}
use Rattle.lr_cmd_shelf.proofs.Repacking.{IsReadyToAdd, cut_line, not_added, not_coded, not_read, ok_is}
use Rattle.lr_cmd_shelf.proofs.Repacking.{ready_to_add, repack_once, told_line}
use Rattle.lr_cmd_shelf.proofs.repack.repack.Goals as goal
use Rattle.lr_cmd_shelf.proofs.repack.repack.Goals.{In-Ok-code_stored}

pub returns-in-Err : goal.returns-in-Err
returns-in-Err g c =
    let so = refused c.load.result c.shelf_answer.result c.shelf_answer.ensures c.in-Err.cause c.in-Err.is in
    rw so.2
    (not_loaded g.D.Disk g.O.Sink (repack_query c.args.number c.args.block) (repack_once c.args.number c.args.block)
    c.args.disk.now c.load.new.disk c.args.out.now c.load.result so.0 c.load.ensures so.1)

pub returns-in-Err-shelf_answer : goal.returns-in-Err-shelf_answer
returns-in-Err-shelf_answer g c =
    let ready = ready_loaded g.D.Disk c.args.disk.now c.load.new.disk c.load.result c.in-Ok.shelf c.load.ensures
    (given c.load.result c.shelf_answer.result c.shelf_answer.ensures c.in-Ok.shelf c.in-Ok.is) in
    let so = refused c.get.result c.shelf_answer-2.result c.shelf_answer-2.ensures c.in-Err-shelf_answer.cause
    c.in-Err-shelf_answer.is in
    rw so.2
    (not_read g.D.Disk g.O.Sink c.args.number c.args.block g.met.D.Disk.reads_on
    c.args.disk.now c.load.new.disk c.get.new.disk
    c.args.out.now c.in-Ok.shelf c.get.new.self c.get.result ready c.get.ensures so.0 so.1
    (error_is _ c.get.result so.0 so.1 c.get.ensures.refused))

pub returns-in-Err-code_stored : goal.returns-in-Err-code_stored
returns-in-Err-code_stored g c =
    let ready = ready_loaded g.D.Disk c.args.disk.now c.load.new.disk c.load.result c.in-Ok.shelf c.load.ensures
    (given c.load.result c.shelf_answer.result c.shelf_answer.ensures c.in-Ok.shelf c.in-Ok.is) in
    not_coded g.D.Disk g.O.Sink c.args.number c.args.block g.met.D.Disk.reads_on
    c.args.disk.now c.load.new.disk c.get.new.disk
    c.args.out.now c.in-Ok.shelf c.get.new.self c.get.result ready c.get.ensures c.in-Ok-shelf_answer.stored
    (given c.get.result c.shelf_answer-2.result c.shelf_answer-2.ensures c.in-Ok-shelf_answer.stored
    c.in-Ok-shelf_answer.is)
    c.in-Err-code_stored.cause c.in-Err-code_stored.ensures.err

-- the file that was coded anew may be added
new_file_is_ready : (g : _) (c : In-Ok-code_stored g)
    → IsReadyToAdd g.D.Disk c.args.number c.args.block c.args.disk.now c.get.new.disk c.get.new.self
    (record { item = item_for c.in-Ok-code_stored.made.placed; text = c.in-Ok-code_stored.made.line })
new_file_is_ready g c =
    let ready = ready_loaded g.D.Disk c.args.disk.now c.load.new.disk c.load.result c.in-Ok.shelf c.load.ensures
    (given c.load.result c.shelf_answer.result c.shelf_answer.ensures c.in-Ok.shelf c.in-Ok.is) in
    ready_to_add g.D.Disk g.O.Sink c.args.number c.args.block g.met.D.Disk.reads_on
    c.args.disk.now c.load.new.disk c.get.new.disk
    c.args.out.now c.in-Ok.shelf c.get.new.self c.get.result ready c.get.ensures c.in-Ok-shelf_answer.stored
    (given c.get.result c.shelf_answer-2.result c.shelf_answer-2.ensures c.in-Ok-shelf_answer.stored
    c.in-Ok-shelf_answer.is)
    c.len.result c.in-Ok-code_stored.made c.len.ensures c.in-Ok-code_stored.ensures.ok

pub returns-in-Err-shelf_answer-2 : goal.returns-in-Err-shelf_answer-2
returns-in-Err-shelf_answer-2 g c =
    let so = refused c.append.result c.shelf_answer-3.result c.shelf_answer-3.ensures c.in-Err-shelf_answer-2.cause
    c.in-Err-shelf_answer-2.is in
    rw so.2
    (not_added g.D.Disk g.O.Sink c.args.number c.args.block c.args.disk.now c.get.new.disk c.append.new.disk
    c.args.out.now c.get.new.self c.append.new.self c.in-Ok-code_stored.made.placed c.in-Ok-code_stored.made.line
    (new_file_is_ready g (goal.at.returns-in-Err-shelf_answer-2 g c).In-Ok-code_stored) c.append.result c.append.ensures
    so.0 so.1 (error_is _ c.append.result so.0 so.1 c.append.ensures.refused))

pub returns-in-Ok-put_text : goal.returns-in-Ok-put_text
returns-in-Ok-put_text g c =
    let added = ok_is c.append.result (unrefused c.append.result c.shelf_answer-3.result c.shelf_answer-3.ensures
    c.in_default.not-Err) in
    told_line g.D.Disk g.O.Sink c.args.number c.args.block c.args.disk.now c.get.new.disk c.append.new.disk
    c.args.out.now c.get.new.self c.append.new.self c.in-Ok-code_stored.made.placed c.in-Ok-code_stored.made.line
    (new_file_is_ready g (goal.at.returns-in-Ok-put_text g c).In-Ok-code_stored) c.append.result c.append.ensures
    added.0 added.1 c.put_text.new.out
    (subst (λ (l : List ℕ). Puts g.O.Sink l c.args.out.now c.put_text.new.out) c.as_slice.ensures
    c.in-Ok-put_text.ensures.put)

pub returns : goal.returns
returns g c =
    let added = ok_is c.append.result (unrefused c.append.result c.shelf_answer-3.result c.shelf_answer-3.ensures
    c.in_default.not-Err) in
    rw c.in-Err-put_text.ensures.cause
    (cut_line g.D.Disk g.O.Sink c.args.number c.args.block c.args.disk.now c.get.new.disk c.append.new.disk
    c.args.out.now c.get.new.self c.append.new.self c.in-Ok-code_stored.made.placed c.in-Ok-code_stored.made.line
    (new_file_is_ready g (goal.at.returns g c).In-Ok-code_stored) c.append.result c.append.ensures added.0 added.1
    c.put_text.new.out
    (subst (λ (l : List ℕ). PutFails g.O.Sink l c.args.out.now c.put_text.new.out) c.as_slice.ensures
    c.in-Err-put_text.ensures.failed))

use Rattle.std.proofs.Common.{◌≡◌, Some, ap, ◌∙◌, sym, subst, rules, arith}
use Rattle.std.specs.Prelude.{IsOk}
use Rattle.std.specs.Option.{option_map}
use Rattle.lr_vc.specs.Reading.{fields}
use Rattle.lr_layers.specs.Layers.{frame_in, is_fill}
use Rattle.lr_layers.specs.Standing.{KeptLayers, MendingLayersStandFor, numbers}
use Rattle.lr_layers.specs.Starts.{found}
use Rattle.lr_layers.proofs.Pushing.{fill_channel, pushed_lost, pushed_unread, pushed_read}
use Rattle.lr_layers.proofs.layers.Layers.take.Goals as goal

pub returns-in-Lost-clause-stands : goal.returns-in-Lost-clause-stands
returns-in-Lost-clause-stands c mend outcomes h =
    (pushed_lost mend outcomes c.args.outcome.now _ c.args.self.now c.self.view_is h c.args.counted
    (found c.args.files.now.items c.args.fillers.now.items)
    c.in-Lost.field-0 c.in-Lost.is).0

pub returns-in-Lost-clause-files : goal.returns-in-Lost-clause-files
returns-in-Lost-clause-files c mend outcomes h =
    (pushed_lost mend outcomes c.args.outcome.now _ c.args.self.now c.self.view_is h c.args.counted
    (found c.args.files.now.items c.args.fillers.now.items)
    c.in-Lost.field-0 c.in-Lost.is).1

pub returns-in_default-clause-stands : goal.returns-in_default-clause-stands
returns-in_default-clause-stands c mend outcomes h =
    (pushed_unread mend outcomes c.args.outcome.now _ c.args.self.now c.self.view_is h c.args.counted
    (found c.args.files.now.items c.args.fillers.now.items)
    c.in-Restored.corrected c.in-Restored.bytes c.in-Restored.is c.now-now.result c.changed_bytes.result
    c.changed_bytes.ensures.value c.now-now.ensures.after (numbers c.read_frame-read.new.counts)
    c.read_frame-read.ensures.counts
    (ap (option_map fields) (sym c.in_default.is) ∙ c.read_frame-read.ensures.frame)).0

pub returns-in_default-clause-files : goal.returns-in_default-clause-files
returns-in_default-clause-files c mend outcomes h =
    (pushed_unread mend outcomes c.args.outcome.now _ c.args.self.now c.self.view_is h c.args.counted
    (found c.args.files.now.items c.args.fillers.now.items)
    c.in-Restored.corrected c.in-Restored.bytes c.in-Restored.is c.now-now.result c.changed_bytes.result
    c.changed_bytes.ensures.value c.now-now.ensures.after (numbers c.read_frame-read.new.counts)
    c.read_frame-read.ensures.counts
    (ap (option_map fields) (sym c.in_default.is) ∙ c.read_frame-read.ensures.frame)).1

pub returns-in-Ok-clause-stands : goal.returns-in-Ok-clause-stands
returns-in-Ok-clause-stands c mend outcomes h =
    (pushed_read mend outcomes c.args.outcome.now _ c.args.self.now c.self.view_is h c.args.counted
    (found c.args.files.now.items c.args.fillers.now.items)
    c.in-Restored.corrected c.in-Restored.bytes c.in-Restored.is c.now-now.result c.changed_bytes.result
    c.changed_bytes.ensures.value c.now-now.ensures.after (numbers c.read_frame-read.new.counts)
    c.read_frame-read.ensures.counts (fields c.in-Some.frame) c.push_frame.new.layers c.in-Ok.gained
    (found c.push_frame.new.out.items c.push_frame.new.fillers.items)
    (ap (option_map fields) (sym c.in-Some.is) ∙ c.read_frame-read.ensures.frame)
    c.now-now.ensures.place c.now-now.ensures.before
    c.in-Ok.ensures.mend c.in-Ok.ensures.takes).0

pub returns-in-Ok-clause-files : goal.returns-in-Ok-clause-files
returns-in-Ok-clause-files c mend outcomes h =
    (pushed_read mend outcomes c.args.outcome.now _ c.args.self.now c.self.view_is h c.args.counted
    (found c.args.files.now.items c.args.fillers.now.items)
    c.in-Restored.corrected c.in-Restored.bytes c.in-Restored.is c.now-now.result c.changed_bytes.result
    c.changed_bytes.ensures.value c.now-now.ensures.after (numbers c.read_frame-read.new.counts)
    c.read_frame-read.ensures.counts (fields c.in-Some.frame) c.push_frame.new.layers c.in-Ok.gained
    (found c.push_frame.new.out.items c.push_frame.new.fillers.items)
    (ap (option_map fields) (sym c.in-Some.is) ∙ c.read_frame-read.ensures.frame)
    c.now-now.ensures.place c.now-now.ensures.before
    c.in-Ok.ensures.mend c.in-Ok.ensures.takes).1

pub returns-in-Err-clause-succeeds : goal.returns-in-Err-clause-succeeds
returns-in-Err-clause-succeeds c unspent none =
    let some : Some (fields c.in-Some.frame) ≡ frame_in c.args.outcome.now =
    ap (option_map fields) (sym c.in-Some.is) ∙ c.read_frame-read.ensures.frame
    ∙ ap frame_in (sym c.in-Restored.is) in
    absurd (cc (some, none))

pub returns-in-Err-clause-fill : goal.returns-in-Err-clause-fill
returns-in-Err-clause-fill c mend outcomes stands fill =
    let stood = subst (λ (k : KeptLayers). MendingLayersStandFor mend k outcomes) (sym c.self.view_is) stands in
    let vc = fill_channel c.in-Restored.corrected c.in-Restored.bytes (fields c.in-Some.frame)
    (ap (option_map fields) (sym c.in-Some.is) ∙ c.read_frame-read.ensures.frame)
    (ap is_fill (sym c.in-Restored.is) ∙ fill) in
    let ok = c.push_frame.ensures.fill stood.channels.unspent vc in
    absurd (cc (subst (λ r. IsOk r) c.in-Err.is ok))

pub returns-in-Lost-clause-succeeds : goal.returns-in-Lost-clause-succeeds
returns-in-Lost-clause-succeeds c = search (rules, arith)

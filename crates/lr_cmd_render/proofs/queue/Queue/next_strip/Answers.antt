use Rattle.std.proofs.Common.{◌-◌, take, subst, rules}
use Rattle.lr_cmd_render.specs.Queues.{EachUnderWay}
use Rattle.lr_cmd_render.proofs.Lists.{last_is, last_set}
use Rattle.lr_cmd_render.proofs.Queueing.{each_front, last_gives}
use Rattle.lr_cmd_render.proofs.queue.Queue.next_strip.Goals as goal

pub next_strip-requires : goal.next_strip-requires
next_strip-requires c =
    let images = c.args.self.now.images in
    let last = c.in-Some.last.now in
    let is = last_is images.items images.len images.ok.0 (search rules) last (search rules) in
    (each_front (take (images.len - 1) images.items) last (subst EachUnderWay is c.requires)).1

pub returns-in-Some-clause-gives : goal.returns-in-Some-clause-gives
returns-in-Some-clause-gives c =
    let images = c.args.self.now.images in
    let last = c.in-Some.last.now in
    last_gives (take (images.len - 1) images.items) last c.next_strip.new.self
    (last_is images.items images.len images.ok.0 (search rules) last (search rules))
    (last_set images.items images.len images.ok.0 (search rules) c.next_strip.new.self) c.next_strip.result
    c.next_strip.ensures.gives

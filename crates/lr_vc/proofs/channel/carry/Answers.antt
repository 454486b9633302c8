use Rattle.std.proofs.Common.{◌≡◌, ◌+◌, ◌-◌, ◌<◌, ◌≤◌, ◌++◌, ◌∷◌, [], ℕ, List, Bool, true, false, cond, length, take}
use Rattle.std.proofs.Common.{ap, ap₂, ◌∙◌, sym, subst, arith, rules}
use Rattle.lr_bits.specs.Packet.{Packet, IsPacket}
use Rattle.lr_bits.specs.declared.sizes.TheConstants.{CHANNELS, ZONE_BYTES}
use Rattle.lr_vc.specs.Packets.{packet_at, packet_end}
use Rattle.lr_vc.specs.Steps.{completed_packet, continued_packet, ends_at, is_nowhere}
use Rattle.lr_vc.proofs.Lists.{append_none}
use Rattle.lr_vc.proofs.Carried.{completed_packet-by, completed_packet-long, continued_packet-long}
use Rattle.lr_vc.proofs.Carried.{continued_packet-other, continued_packet-short, packet_at-across, is_packet-across}
use Rattle.lr_vc.proofs.ZoneStarts.{test, agrees_is, nowhere_not, nowhere_so}
use Rattle.lr_vc.proofs.channel.carry.Goals.{After-zone_start-start}
use Rattle.lr_vc.proofs.channel.carry.Goals as goal

module _ (c : After-zone_start-start) where
  abbrev b : List ℕ
  b = c.args.bytes

  abbrev z : List ℕ
  z = c.args.frame.now.zone

  abbrev p : ℕ
  p = c.args.frame.now.pointer

  abbrev so_far : ℕ
  so_far = length c.as_slice-so_far.result.now

  long : so_far ≡ length b
  long = ap length c.as_slice-so_far.ensures

  end : c.end_across-end.result ≡ packet_end (b ++ z) 0
  end = c.end_across-end.ensures.end ∙ ap (λ s. packet_end (s ++ z) 0) c.as_slice.ensures

  -- the packet reaches past the zone
  none_ends : so_far + ZONE_BYTES < c.end_across-end.result → completed_packet c.args.frame.now.vc z p b ≡ []
  none_ends past = completed_packet-long b z p c.args.frame.now.vc (omega (arith, long, end))

  goes_on : so_far + ZONE_BYTES < c.end_across-end.result → is_nowhere c.zone_start-start.result ≡ true →
      continued_packet z p b ≡ (b ++ z) ∷ []
  goes_on past sure =
      continued_packet-long b z p (omega (arith, long, end)) (nowhere_so p _ c.zone_start-start.ensures sure)

  -- it ends by the zone's end
  not_open : c.end_across-end.result ≤ so_far + ZONE_BYTES → continued_packet z p b ≡ []
  not_open within = continued_packet-short b z p (omega (arith, long, end))

  completed : (t : Bool) → t ≡ ends_at so_far c.end_across-end.result c.zone_start-start.result →
      completed_packet c.args.frame.now.vc z p b ≡ cond t (packet_at c.args.frame.now.vc (b ++ z) 0 ∷ []) []
  unfolding test
  completed t is =
      completed_packet-by b z p c.args.frame.now.vc t
      (is ∙ agrees_is _ _ p _ c.zone_start-start.ensures ∙ ap₂ (λ e n. test e n p) end long)

  same : (all : List ℕ) → so_far ≤ c.end_across-end.result → all ≡ b ++ take (c.end_across-end.result - so_far) z →
      ◌≡◌ {A = Packet} (record { vc = c.args.frame.now.vc; bytes = all }) (packet_at c.args.frame.now.vc (b ++ z) 0)
  same all behind copied =
      packet_at-across b z p c.args.frame.now.vc c.end_across-end.result all end (omega (arith, long, behind))
      (copied ∙ ap (λ n. b ++ take (c.end_across-end.result - n) z) long)

pub returns-in_err-extend-clause-succeeds : goal.returns-in_err-extend-clause-succeeds
returns-in_err-extend-clause-succeeds c ended none =
    let some = goes_on (goal.at.returns-in_err-extend-clause-succeeds c).After-zone_start-start
    c.if-end-so_far.true (sym c.is_nowhere.ensures ∙ c.if-not-is_nowhere.false) in
    absurd (cc (some, none))

pub returns-in_err-extend-2-clause-succeeds : goal.returns-in_err-extend-2-clause-succeeds
returns-in_err-extend-2-clause-succeeds c none going =
    let some = completed (goal.at.returns-in_err-extend-2-clause-succeeds c).After-zone_start-start true
    (sym c.if-not-agrees.false ∙ c.agrees.ensures.value) in
    absurd (cc (some, none))

pub returns-in_err-push-clause-succeeds : goal.returns-in_err-push-clause-succeeds
returns-in_err-push-clause-succeeds c none going =
    let some = completed (goal.at.returns-in_err-push-clause-succeeds c).After-zone_start-start true
    (sym c.if-not-agrees.false ∙ c.agrees.ensures.value) in
    absurd (cc (some, none))

pub returns-then-not-is_nowhere-clause-packets : goal.returns-then-not-is_nowhere-clause-packets
returns-then-not-is_nowhere-clause-packets c =
    append_none c.args.packets.now.items _
    (none_ends (goal.at.returns-then-not-is_nowhere-clause-packets c).After-zone_start-start c.if-end-so_far.true)

pub returns-then-not-is_nowhere-clause-open_packet : goal.returns-then-not-is_nowhere-clause-open_packet
returns-then-not-is_nowhere-clause-open_packet c =
    sym (continued_packet-other c.args.bytes c.args.frame.now.zone c.args.frame.now.pointer
    (nowhere_not c.args.frame.now.pointer _ c.zone_start-start.ensures
    (sym c.is_nowhere.ensures ∙ c.if-not-is_nowhere.true)))

pub returns-then-end-so_far-clause-packets : goal.returns-then-end-so_far-clause-packets
returns-then-end-so_far-clause-packets c =
    append_none c.args.packets.now.items _
    (none_ends (goal.at.returns-then-end-so_far-clause-packets c).After-zone_start-start c.if-end-so_far.true)

pub returns-then-end-so_far-clause-open_packet : goal.returns-then-end-so_far-clause-open_packet
returns-then-end-so_far-clause-open_packet c =
    ap (λ bytes. bytes ∷ []) c.in_ok-extend.ensures.ok
    ∙ sym (goes_on (goal.at.returns-then-end-so_far-clause-open_packet c).After-zone_start-start
    c.if-end-so_far.true (sym c.is_nowhere.ensures ∙ c.if-not-is_nowhere.false))

pub whole-requires : goal.whole-requires
whole-requires c =
    let to = (goal.at.whole-requires c).After-zone_start-start in
    let zone_long : length c.args.frame.now.zone ≡ ZONE_BYTES = search rules in
    let fits : c.args.frame.now.vc < CHANNELS = c.args.frame.now.vc_fits in
    subst IsPacket
    (sym (same to c.extend-2.new.self (c.agrees.ensures.after c.if-not-agrees.false) c.in_ok-extend-2.ensures.ok))
    (is_packet-across c.args.bytes c.args.frame.now.zone c.args.frame.now.pointer c.args.frame.now.vc fits zone_long
    (omega (arith, c.agrees.ensures.within c.if-not-agrees.false, long to, end to)))

pub returns-then-not-agrees-clause-packets : goal.returns-then-not-agrees-clause-packets
returns-then-not-agrees-clause-packets c =
    append_none c.args.packets.now.items _
    (completed (goal.at.returns-then-not-agrees-clause-packets c).After-zone_start-start false
    (sym c.if-not-agrees.true ∙ c.agrees.ensures.value))

pub returns-then-not-agrees-clause-open_packet : goal.returns-then-not-agrees-clause-open_packet
returns-then-not-agrees-clause-open_packet c =
    sym (not_open (goal.at.returns-then-not-agrees-clause-open_packet c).After-zone_start-start c.if-end-so_far.false)

pub returns-clause-packets : goal.returns-clause-packets
returns-clause-packets c =
    let to = (goal.at.returns-clause-packets c).After-zone_start-start in
    c.in_ok-push.ensures.items
    ∙ ap (λ x. c.args.packets.now.items ++ x ∷ []) (c.whole.ensures
    ∙ same to c.extend-2.new.self (c.agrees.ensures.after c.if-not-agrees.false) c.in_ok-extend-2.ensures.ok)
    ∙ ap (λ ps. c.args.packets.now.items ++ ps)
    (sym (completed to true (sym c.if-not-agrees.false ∙ c.agrees.ensures.value)))

pub returns-clause-open_packet : goal.returns-clause-open_packet
returns-clause-open_packet c =
    sym (not_open (goal.at.returns-clause-open_packet c).After-zone_start-start c.if-end-so_far.false)

pub returns-then-not-is_nowhere-clause-succeeds : goal.returns-then-not-is_nowhere-clause-succeeds
returns-then-not-is_nowhere-clause-succeeds c = search (rules, arith)

use Rattle.std.proofs.Common.{◌≡◌, ◌∙◌, ◌+◌, ◌*◌, ◌%◌, ap, sym, subst, refl, arith, ℕ, List, length, ◌^◌}
use Rattle.std.proofs.Common.{◌<◌, [], true, false, drop, get_or, set, true≢false, Option, Some, None}
use Rattle.std.specs.List.{concat}
use Rattle.std.proofs.lemmas.List.{take_all}
use Rattle.lr_bits.specs.declared.sizes.TheConstants.{CHANNELS, SEQUENCE_COUNTS, ZONE_BYTES}
use Rattle.lr_conv.specs.declared.line.LineCode.{LineCode}
use Rattle.lr_sent.specs.Sent.{AreSentFor}
use Rattle.lr_uplink.specs.declared.sending.Sending.{Sending}
use Rattle.lr_uplink.specs.Sent.{sent}
use Rattle.lr_uplink.specs.Packets.{file_packets}
use Rattle.lr_uplink.specs.Progress.{SentFramesStandFor, IsAtRest, IsFileUnderWay, IsSending}
use Rattle.lr_uplink.specs.Standing.{History, UplinkStandsFor, with_frame}
use Rattle.lr_uplink.proofs.Receiving.{sent_files_are_received}
use Rattle.lr_uplink.proofs.UnderWay.{first_count, frame_is, goes_on, is_done, is_left, left_is, room}
use Rattle.lr_uplink.proofs.uplink.Uplink.next_frame.Goals.{After-is_done}
use Rattle.lr_uplink.proofs.uplink.Uplink.next_frame.Goals as goal

pub returns-in_default-clause-received : goal.returns-in_default-clause-received
returns-in_default-clause-received c = λ line history s _ all.
    let counters = c.args.self.now.counters in
    let rest : IsAtRest counters history.files history.given =
    subst (λ o. SentFramesStandFor counters o history.files history.given) (sym c.take.ensures.value ∙ c.in_default.is)
    s.frames in
    sent_files_are_received line history.files history.blocks s.files
    (subst (λ fs. AreSentFor fs history.blocks)
    (take_all (length history.blocks) (sent history.files) (omega (arith, rest.count, all))) s.blocks)

-- what both ways out have of the file that is under way
module _ (c : After-is_done) (line : LineCode) (history : History)
    (s : UplinkStandsFor c.args.self.now line history) where
  way : IsFileUnderWay c.args.self.now.counters c.in-Some.sending history.files history.given
  way =
      subst (λ o. SentFramesStandFor c.args.self.now.counters o history.files history.given)
      (sym c.take.ensures.value ∙ c.in-Some.is) s.frames

  abbrev counted : ℕ
  counted = first_count way % SEQUENCE_COUNTS

  place : c.from-place.result ≡ way.file.vc
  place = c.from-place.ensures ∙ c.vc.ensures.value ∙ ap (λ f. f.vc) way.left.part.same

  there : history.given < length (sent history.files)
  there = is_left way

  abbrev rest : List ℕ
  rest = drop (ZONE_BYTES * way.frames) (concat (file_packets counted way.file))

  left : IsSending c.in-Some.sending way.file counted rest
  left = left_is way

  frame : c.put_next.new.frame ≡ get_or (sent history.files) history.given []
  frame =
      frame_is way c.put_next.new.frame (get_or c.args.self.now.counters c.from-place.result 0)
      (ap (λ k. get_or c.args.self.now.counters k 0) place)
      (c.put_next.ensures.frame way.file counted way.frames (room way) left)

  moved : IsSending c.put_next.new.sending way.file counted (drop ZONE_BYTES rest)
  moved = c.put_next.ensures.moves way.file counted rest left

  wide : length c.args.self.now.counters ≡ CHANNELS
  wide = omega arith

  abbrev counter : ℕ
  counter = (get_or c.args.self.now.counters c.from-place.result 0 + 1) % 2 ^ 32

  counter_is : counter ≡ (get_or c.args.self.now.counters way.file.vc 0 + 1) % 2 ^ 32
  counter_is = ap (λ k. (get_or c.args.self.now.counters k 0 + 1) % 2 ^ 32) place

  abbrev later : List ℕ
  later = set c.args.self.now.counters c.from-place.result counter

  -- the uplink after the frame, with that left to send
  abbrev StandsWith : Option Sending → Type 0
  StandsWith o = UplinkStandsFor (record c.args.self.now { counters = later; sending = o }) line (with_frame history)

  stands : (o : Option Sending) → SentFramesStandFor later o history.files (history.given + 1) → StandsWith o
  stands o frames = record {
    files = s.files;
    counts = s.counts;
    frames = frames;
    given = omega (arith, s.given);
    blocks = s.blocks;
    encoder = s.encoder;
  }

  stays : c.is_done.result ≡ false → StandsWith (Some c.put_next.new.sending)
  stays going =
      stands _ (subst (λ k. IsFileUnderWay (set c.args.self.now.counters k counter) c.put_next.new.sending history.files
      (history.given + 1)) (sym place) (goes_on way wide counter counter_is c.put_next.new.sending moved
      (λ none. true≢false (sym ((c.is_done.ensures way.file counted (drop ZONE_BYTES rest) moved).1 none) ∙ going))))

  ends : c.is_done.result ≡ true → StandsWith None
  ends over =
      stands _ (subst (λ k. IsAtRest (set c.args.self.now.counters k counter) history.files (history.given + 1))
      (sym place) (is_done way wide counter counter_is c.put_next.new.sending moved
      ((c.is_done.ensures way.file counted (drop ZONE_BYTES rest) moved).0 over)))

pub returns-then-not-is_done-clause-left : goal.returns-then-not-is_done-clause-left
returns-then-not-is_done-clause-left c = λ line history s.
    (λ _. there (goal.at.returns-then-not-is_done-clause-left c).After-is_done line history s, λ _. refl)

pub returns-then-not-is_done-clause-frame : goal.returns-then-not-is_done-clause-frame
returns-then-not-is_done-clause-frame c = λ line history s _.
    frame (goal.at.returns-then-not-is_done-clause-frame c).After-is_done line history s

pub returns-then-not-is_done-clause-given : goal.returns-then-not-is_done-clause-given
returns-then-not-is_done-clause-given c = λ line history s _.
    stays (goal.at.returns-then-not-is_done-clause-given c).After-is_done line history s c.if-not-is_done.true

pub returns-else-not-is_done-clause-left : goal.returns-else-not-is_done-clause-left
returns-else-not-is_done-clause-left c = λ line history s.
    (λ _. there (goal.at.returns-else-not-is_done-clause-left c).After-is_done line history s, λ _. refl)

pub returns-else-not-is_done-clause-frame : goal.returns-else-not-is_done-clause-frame
returns-else-not-is_done-clause-frame c = λ line history s _.
    frame (goal.at.returns-else-not-is_done-clause-frame c).After-is_done line history s

pub returns-else-not-is_done-clause-given : goal.returns-else-not-is_done-clause-given
returns-else-not-is_done-clause-given c = λ line history s _.
    let to = (goal.at.returns-else-not-is_done-clause-given c).After-is_done in
    subst (StandsWith to line history s) (sym c.take.ensures.after) (ends to line history s c.if-not-is_done.false)

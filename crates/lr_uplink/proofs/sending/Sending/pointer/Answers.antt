use Rattle.std.proofs.Common.{◌≡◌, ◌∙◌, ◌-◌, ◌*◌, ◌<◌, ℕ, List, []}
use Rattle.std.proofs.Common.{◌++◌, length, drop, get_or, sym, ap, arith, suc, length-drop}
use Rattle.std.specs.List.{concat}
use Rattle.lr_bits.specs.File.{File}
use Rattle.lr_bits.specs.declared.sizes.TheConstants.{ZONE_BYTES}
use Rattle.lr_uplink.specs.Packets.{file_packets}
use Rattle.lr_uplink.specs.Progress.{IsSending}
use Rattle.lr_uplink.proofs.FilePackets.{file_tells}
use Rattle.lr_uplink.proofs.Places.{pointer_first, pointer_none, pointer_next}
use Rattle.lr_uplink.proofs.Parts.{rest_of}
use Rattle.lr_uplink.proofs.sending.Sending.pointer.Goals.{After-len}
use Rattle.lr_uplink.proofs.sending.Sending.pointer.Goals as goal

pub returns-then-self-eq0-clause-value : goal.returns-then-self-eq0-clause-value
returns-then-self-eq0-clause-value c = λ file count t room s.
    let packets = file_packets count file in
    let r = rest_of c.args.self.now file count (drop (ZONE_BYTES * t) (concat packets)) s.part in
    sym (pointer_first packets (file_tells count file s.part.is) t c.args.self.now.index room s.part.packet.there
    (r ∙ ap (λ k. drop k (get_or packets c.args.self.now.index []) ++ concat
    (drop (suc c.args.self.now.index) packets)) c.if-self-eq0.true))

-- the packet that is being sent, of which some bytes are left
size : (c : After-len) (file : File) (count : ℕ) (rest : List ℕ) → IsSending c.args.self.now file count rest →
    0 < length rest → (c.len.result ≡ length (get_or (file_packets count file) c.args.self.now.index []))
    × (c.args.self.now.sent < length (get_or (file_packets count file) c.args.self.now.index []))
size c file count rest s some =
    let whole = s.part.packet.carries.size in (c.len.ensures.value ∙ whole, omega (arith, whole, s.going some))

pub returns-then-left-lt-ZONE_BYTES-clause-value : goal.returns-then-left-lt-ZONE_BYTES-clause-value
returns-then-left-lt-ZONE_BYTES-clause-value c = λ file count t room s.
    let packets = file_packets count file in
    let sending = c.args.self.now in
    let own = size (goal.at.returns-then-left-lt-ZONE_BYTES-clause-value c).After-len file count _ s
    (omega (arith, length-drop (ZONE_BYTES * t) (concat packets))) in
    ap (λ n. n - sending.sent) own.0
    ∙ sym (pointer_next packets (file_tells count file s.part.is) t sending.index room s.part.packet.there sending.sent
    (omega (arith, c.if-self-eq0.false)) own.1 (omega (arith, own.0, c.if-left-lt-ZONE_BYTES.true))
    (rest_of sending file count (drop (ZONE_BYTES * t) (concat packets)) s.part))

pub returns-else-left-lt-ZONE_BYTES-clause-value : goal.returns-else-left-lt-ZONE_BYTES-clause-value
returns-else-left-lt-ZONE_BYTES-clause-value c = λ file count t room s.
    let packets = file_packets count file in
    let sending = c.args.self.now in
    let own = size (goal.at.returns-else-left-lt-ZONE_BYTES-clause-value c).After-len file count _ s
    (omega (arith, length-drop (ZONE_BYTES * t) (concat packets))) in
    sym (pointer_none packets (file_tells count file s.part.is) t sending.index room s.part.packet.there sending.sent
    (omega (arith, c.if-self-eq0.false)) own.1 (omega (arith, own.0, c.if-left-lt-ZONE_BYTES.false))
    (rest_of sending file count (drop (ZONE_BYTES * t) (concat packets)) s.part))

-- A file while it is sent: what is left of it, and one byte more.
use Rattle.std.proofs.Common.{◌≡◌, ℕ, suc, ◌+◌, ◌<◌, ◌≤◌, List, [], ◌++◌, length, drop, get_or}
use Rattle.std.proofs.Common.{sym, ap, ap₂, ◌∙◌, subst, arith, add-one, add-zero, length-drop}
use Rattle.std.proofs.Common.{drop-drop, drop-cons, get_or-drop}
use Rattle.std.specs.List.{concat}
use Rattle.std.proofs.lemmas.List.{drop_all, drop-append-le, get_or_append_left}
use Rattle.lr_bits.specs.File.{File, bytes_of}
use Rattle.lr_uplink.specs.declared.sending.Sending.{Sending}
use Rattle.lr_uplink.specs.Packets.{file_packets}
use Rattle.lr_uplink.specs.Pieces.{IsPacketAt, packet_bytes, size_of_packet}
use Rattle.lr_uplink.specs.Progress.{IsUnsentPart, IsSending}

module _ (sending : Sending) (file : File) (count : ℕ) (rest : List ℕ)
    (part : IsUnsentPart sending file count rest) where
  abbrev packets : List (List ℕ)
  packets = file_packets count file

  abbrev own : List ℕ
  own = get_or packets sending.index []

  -- in the words of the packets alone
  pub rest_of : rest ≡ drop sending.sent own ++ concat (drop (suc sending.index) packets)
  rest_of =
      part.left
      ∙ ap₂ (λ bytes k. drop sending.sent bytes ++ concat (drop k packets)) part.packet.carries.is
      (add-one sending.index)

  size : size_of_packet sending.packet ≡ length own
  size = part.packet.carries.size

  -- the next byte, where the packet has one
  pub byte_of : sending.sent < size_of_packet sending.packet →
      get_or (packet_bytes sending.packet (bytes_of file)) sending.sent 0 ≡ get_or rest 0 0
  byte_of inside =
      let within : 0 < length (drop sending.sent own) = omega (arith, length-drop sending.sent own, size) in
      ap (λ bytes. get_or bytes sending.sent 0) part.packet.carries.is
      ∙ ap (λ k. get_or own k 0) (sym (add-zero sending.sent)) ∙ sym (get_or-drop sending.sent own 0 0)
      ∙ sym (get_or_append_left (drop sending.sent own) (concat (drop (suc sending.index) packets)) 0 0 within)
      ∙ ap (λ bytes. get_or bytes 0 0) (sym rest_of)

  -- what is left after it
  pub behind_byte : sending.sent < size_of_packet sending.packet →
      drop 1 rest ≡ drop (sending.sent + 1) (packet_bytes sending.packet (bytes_of file))
      ++ concat (drop (sending.index + 1) packets)
  behind_byte inside =
      let bytes = packet_bytes sending.packet (bytes_of file) in
      let long : length bytes ≡ length own = ap length part.packet.carries.is in
      let enough : 1 ≤ length (drop sending.sent bytes) = omega (arith, length-drop sending.sent bytes, size, long) in
      ap (drop 1) part.left
      ∙ drop-append-le 1 (drop sending.sent bytes) (concat (drop (sending.index + 1) packets)) enough
      ∙ ap (λ xs. xs ++ concat (drop (sending.index + 1) packets)) (drop-drop 1 sending.sent bytes)

  -- where all of the packet is sent, what is left is the packets after it
  pub all_sent : sending.sent ≡ size_of_packet sending.packet → rest ≡ concat (drop (suc sending.index) packets)
  all_sent e =
      rest_of ∙ ap (λ xs. xs ++ concat (drop (suc sending.index) packets))
      (drop_all sending.sent own (omega (arith, size)))

-- on to the next packet, or to the end
module _ (sending new : Sending) (file : File) (count : ℕ) (rest : List ℕ) (part : IsUnsentPart sending file count rest)
    (end : sending.sent ≡ size_of_packet sending.packet) where
  pub moved_on : new.file ≡ sending.file → new.count ≡ sending.count → new.index ≡ sending.index + 1 → new.sent ≡ 0 →
      IsPacketAt (file_packets sending.count sending.file) (bytes_of sending.file) new.index new.packet →
      IsSending new file count rest
  moved_on f c k z at =
      let all = file_packets count file in
      let bytes = packet_bytes new.packet (bytes_of file) in
      let next : sending.index + 1 ≡ new.index = sym k in
      let there : IsPacketAt all (bytes_of file) new.index new.packet =
      subst (λ n. IsPacketAt (file_packets n file) (bytes_of file) new.index new.packet) part.counted
      (subst (λ x. IsPacketAt (file_packets sending.count x) (bytes_of x) new.index new.packet) part.same at) in
      record {
        part = record {
          is = part.is;
          same = f ∙ part.same;
          counted = c ∙ part.counted;
          packet = there;
          left =
              all_sent sending file count rest part end
              ∙ ap (λ n. concat (drop n all)) (sym (add-one sending.index) ∙ next)
              ∙ ap concat (drop-cons all new.index [] there.there)
              ∙ ap₂ (λ xs n. xs ++ concat (drop n all)) (sym there.carries.is) (sym (add-one new.index))
              ∙ ap (λ n. drop n bytes ++ concat (drop (new.index + 1) all)) (sym z);
        };
        going = λ some. omega (arith, z);
      }

  pub ended : length (file_packets sending.count sending.file) ≤ sending.index + 1 → IsSending sending file count rest
  ended few =
      let all = file_packets count file in
      let size : length (file_packets sending.count sending.file) ≡ length all =
      ap₂ (λ n x. length (file_packets n x)) part.counted part.same in
      let none : rest ≡ [] =
      all_sent sending file count rest part end
      ∙ ap concat (drop_all (suc sending.index) all (omega (arith, size, few))) in
      record { part = part; going = λ some. absurd (omega (arith, some, ap length none)) }

-- one byte more of the packet
pub byte_sent : (sending new : Sending) (file : File) (count : ℕ) (rest : List ℕ)
    → IsUnsentPart sending file count rest →
    sending.sent < size_of_packet sending.packet → new.file ≡ sending.file → new.count ≡ sending.count →
    new.index ≡ sending.index → new.packet ≡ sending.packet → new.sent ≡ sending.sent + 1 →
    IsUnsentPart new file count (drop 1 rest)
byte_sent sending new file count rest part inside f c k p n = record {
  is = part.is;
  same = f ∙ part.same;
  counted = c ∙ part.counted;
  packet =
      subst (λ x. IsPacketAt (file_packets count file) (bytes_of file) x new.packet) (sym k)
      (subst (λ x. IsPacketAt (file_packets count file) (bytes_of file) sending.index x) (sym p) part.packet);
  left =
      behind_byte sending file count rest part inside
      ∙ ap₂ (λ x m. drop m (packet_bytes x (bytes_of file)) ++ concat (drop (sending.index + 1)
      (file_packets count file))) (sym p) (sym n)
      ∙ ap (λ m. drop new.sent (packet_bytes new.packet (bytes_of file)) ++ concat (drop (m + 1)
      (file_packets count file))) (sym k);
}
